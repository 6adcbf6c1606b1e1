-- How the calls of one caller, made one after the other, stand in a history.
use Rattle.std.proofs.Common.{ℕ, ◌≡◌, ◌∙◌, ◌&&◌, Bool, true, false, List, [], ◌∷◌, ◌++◌, All, Option, Some, None, IfSome, fold, refl, sym, ap, subst, append_assoc}
use Rattle.std.specs.List.{find}
use Rattle.std.specs.Option.{option_map, option_map_or, option_or, option_to_list}
use Rattle.std.specs.Str.{bytes_eq}
use Rattle.std.proofs.lemmas.List.{append-nil}
use Rattle.std.proofs.lemmas.List.Elements.{All-nil, All-cons, All-append, All-head, All-tail, filter-append}
use Rattle.std.proofs.lemmas.List.Folds.{find-append}
use Rattle.std.proofs.lemmas.List.Sums.{fold-append}
use Rattle.replay_core.proofs.ReplayFacts.{replayed_call}
use Rattle.replay_core.specs.Follows.{CallsNext, Makes, PhaseCaller, after_call, before_call, gone_on, meaning_to}
use Rattle.replay_core.specs.Labels.{Meaning, binding_of, call_of, handle_of, is_known, label_of}
use Rattle.replay_core.specs.Loans.{loans_after}
use Rattle.replay_core.specs.Solo.{Replay, made, replayed}
use Rattle.solo_device.specs.OneThread.{asked_flight, ready_for, stopped_flight, with_note}
use Rattle.replay_core.specs.declared.bindings.Binding.{Binding}
use Rattle.seq_model.specs.Contents.{entered}
use Rattle.seq_model.specs.Endings.{reply_to}
use Rattle.seq_model.specs.Histories.{History, caller_of, entries_of, is_call_of}
use Rattle.seq_model.specs.Steps.{Past, step}
use Rattle.seq_model.specs.declared.calls.Call.{Call}
use Rattle.seq_model.specs.declared.calls.Entry.{Entry}
use Rattle.seq_model.specs.declared.calls.Entry.TheVariants.{Called, Finished, Left}
use Rattle.seq_model.specs.declared.calls.Reply.{Reply}
use Rattle.seq_model.specs.declared.calls.Reply.TheVariants.{Made}
use Rattle.trace_text.specs.declared.calls.TraceCall.{TraceCall}
use Rattle.trace_text.specs.declared.calls.TraceCall.TheVariants.{EndLoan}

-- the note on a flight, where there is one
abbrev pub notes : (ℕ → Entry) → Option ℕ → History
notes note t = option_to_list (option_map note t)

pub noted : (note : ℕ → Entry) (t : Option ℕ) (past : Past) → with_note note t past ≡ gone_on past (notes note t)
noted note None past = refl
noted note (Some t) past = refl

pub finished_is_no_call : (caller : ℕ) (t : Option ℕ) → entries_of caller (notes Finished t) ≡ []
finished_is_no_call caller None = refl
finished_is_no_call caller (Some t) = refl

pub left_is_no_call : (caller : ℕ) (t : Option ℕ) → entries_of caller (notes Left t) ≡ []
left_is_no_call caller None = refl
left_is_no_call caller (Some t) = refl

pub gone_further : (past : Past) (xs ys : History) → gone_on past (xs ++ ys) ≡ gone_on (gone_on past xs) ys
gone_further past xs ys = fold-append step past xs ys

pub none_of_both : (caller : ℕ) (xs ys : History) → entries_of caller xs ≡ [] → entries_of caller ys ≡ [] → entries_of caller (xs ++ ys) ≡ []
none_of_both caller xs ys none no_more = filter-append (is_call_of caller) xs ys ∙ ap (λ zs. zs ++ entries_of caller ys) none ∙ no_more

-- what stands before a caller's calls, and is none of them
later : {number : ℕ} (past : Past) (before : History) {asked : Past → Option Call} {history : History} → entries_of number before ≡ [] → CallsNext number (gone_on past before) asked history → CallsNext number past asked (before ++ history)
later {number} past before {asked} {history} none next = record {
  others = before ++ next.others;
  call = next.call;
  reply = next.reply;
  rest = next.rest;
  stands = ap (λ h. before ++ h) next.stands ∙ sym (append_assoc before next.others (Called number next.call next.reply ∷ next.rest));
  alone = none_of_both number before next.others none next.alone;
  fits = ap asked (gone_further past before next.others) ∙ next.fits;
}

pub skipped : (caller : PhaseCaller) (past : Past) (before : History) → entries_of caller.number before ≡ [] →
    (calls : List TraceCall) (loans : List (Option Call)) (own : List Binding) (history : History) (bound : List Binding) →
    Makes caller (gone_on past before) calls loans own history bound → Makes caller past calls loans own (before ++ history) bound
unfolding Makes later
skipped caller past before none [] loans own history bound makes = (none_of_both caller.number before history none makes.0, makes.1)
skipped caller past before none (EndLoan ∷ calls) [] own history bound makes = skipped caller past before none calls [] own history bound makes
skipped caller past before none (EndLoan ∷ calls) (None ∷ loans) own history bound makes = skipped caller past before none calls loans own history bound makes
skipped caller past before none (EndLoan ∷ calls) (Some unmap ∷ loans) own history bound makes = (
  later past before none makes.0,
  subst (λ (now : Past). Makes caller (step now (Called caller.number makes.0.call makes.0.reply)) calls loans own makes.0.rest bound)
      (sym (gone_further past before makes.0.others)) makes.1,
)
skipped caller past before none (c ∷ calls) loans own history bound makes = (
  later past before none makes.0,
  subst
      (λ (now : Past). Makes caller (step now (Called caller.number makes.0.call makes.0.reply)) calls (loans_after now (meaning_to caller own) c makes.0.reply loans)
      (own ++ binding_of caller.phase caller.number c makes.0.reply) makes.0.rest bound)
      (sym (gone_further past before makes.0.others)) makes.1,
)

-- a call that is no end of a loan
called : (caller : PhaseCaller) (past : Past) (c : TraceCall) (calls : List TraceCall) (loans : List (Option Call)) (own : List Binding) (history : History) (bound : List Binding) (call : Call) →
    call_of (meaning_to caller own) c ≡ Some call →
    (next : CallsNext caller.number past (λ now. call_of (meaning_to caller own) c) history) →
    Makes caller (after_call next) calls (loans_after (before_call next) (meaning_to caller own) c next.reply loans) (own ++ binding_of caller.phase caller.number c next.reply) next.rest bound →
    Makes caller past (c ∷ calls) loans own history bound
unfolding Makes
called caller past EndLoan calls loans own history bound call is next makes = absurd cc
called caller past c calls loans own history bound call is next makes = (next, makes)

pub ends_a_loan : (meaning : Meaning) (c : TraceCall) → call_of meaning c ≡ None → c ≡ EndLoan
ends_a_loan meaning EndLoan is = refl
ends_a_loan meaning _ is = absurd cc

-- an entry that is no call of anyone but this caller
abbrev pub IsOf : ℕ → Entry → Type 0
IsOf caller e = IfSome (caller_of e) (λ c. c ≡ caller)

finished_is_of : (caller : ℕ) (t : Option ℕ) → All (IsOf caller) (notes Finished t)
finished_is_of caller None = All-nil (IsOf caller)
finished_is_of caller (Some t) = All-cons (IsOf caller) (Finished t) [] tt (All-nil (IsOf caller))

left_is_of : (caller : ℕ) (t : Option ℕ) → All (IsOf caller) (notes Left t)
left_is_of caller None = All-nil (IsOf caller)
left_is_of caller (Some t) = All-cons (IsOf caller) (Left t) [] tt (All-nil (IsOf caller))

-- a binding of this caller
abbrev pub IsBoundBy : PhaseCaller → Binding → Type 0
IsBoundBy caller b = (b.phase ≡ caller.phase) × (b.caller ≡ caller.number)

bound_by_it : (caller : PhaseCaller) (c : TraceCall) (r : Reply) → All (IsBoundBy caller) (binding_of caller.phase caller.number c r)
bound_by_it caller c (Made h) = by (label_of c)
  where
    by : (x : Option (List ℕ)) → All (IsBoundBy caller) (option_to_list (option_map {U = Binding} (λ label. record { label = label; handle = h; phase = caller.phase; caller = caller.number }) x))
    by None = All-nil (IsBoundBy caller)
    by (Some label) = All-cons (IsBoundBy caller) (record { label = label; handle = h; phase = caller.phase; caller = caller.number }) [] (refl, refl) (All-nil (IsBoundBy caller))
bound_by_it caller c _ = All-nil (IsBoundBy caller)

-- what one call of a trace adds to a history, and that its caller makes it there
record Stepped (caller : PhaseCaller) (r : Replay) (c : TraceCall) (own : List Binding) : Type 0 where
  added : History
  bound : List Binding
  past : (replayed caller.phase caller.number r c).past ≡ gone_on r.past added
  binds : (replayed caller.phase caller.number r c).bound ≡ r.bound ++ bound
  its : All (IsBoundBy caller) bound
  alone : All (IsOf caller.number) added
  makes : (calls : List TraceCall) (rest : History) (all : List Binding) →
      Makes caller (gone_on r.past added) calls (replayed caller.phase caller.number r c).loans (own ++ bound) rest all → Makes caller r.past (c ∷ calls) r.loans own (added ++ rest) all

-- the unmap of a loan that was granted
unmap_made : (caller : PhaseCaller) (past : Past) (unmap : Call) (loans : List (Option Call)) (own : List Binding) (calls : List TraceCall) (t : Option ℕ) (rest : History) (all : List Binding) →
    Makes caller (gone_on past (Called caller.number (entered past unmap) (reply_to past (entered past unmap)) ∷ notes Left t)) calls loans own rest all →
    Makes caller past (EndLoan ∷ calls) (Some unmap ∷ loans) own (Called caller.number (entered past unmap) (reply_to past (entered past unmap)) ∷ (notes Left t ++ rest)) all
unfolding Makes
unmap_made caller past unmap loans own calls t rest all makes = (
  record { others = []; call = entered past unmap; reply = reply_to past (entered past unmap); rest = notes Left t ++ rest; stands = refl; alone = refl; fits = refl },
  skipped caller (step past (Called caller.number (entered past unmap) (reply_to past (entered past unmap)))) (notes Left t) (left_is_no_call caller.number t) calls loans own rest all makes,
)

silent_end : (caller : PhaseCaller) (past : Past) (calls : List TraceCall) (own : List Binding) (rest : History) (all : List Binding) → Makes caller past calls [] own rest all → Makes caller past (EndLoan ∷ calls) [] own rest all
unfolding Makes
silent_end caller past calls own rest all makes = makes

refused_end : (caller : PhaseCaller) (past : Past) (calls : List TraceCall) (loans : List (Option Call)) (own : List Binding) (rest : History) (all : List Binding) →
    Makes caller past calls loans own rest all → Makes caller past (EndLoan ∷ calls) (None ∷ loans) own rest all
unfolding Makes
refused_end caller past calls loans own rest all makes = makes

end_stepped : (caller : PhaseCaller) (past : Past) (bound : List Binding) (loans : List (Option Call)) (own : List Binding) → Stepped caller (record { past = past; bound = bound; loans = loans }) EndLoan own
unfolding replayed
end_stepped caller past bound [] own = record {
  added = [];
  bound = [];
  past = refl;
  binds = sym (append-nil bound);
  its = All-nil (IsBoundBy caller);
  alone = All-nil (IsOf caller.number);
  makes = λ calls rest all m. silent_end caller past calls own rest all (subst (λ own. Makes caller past calls [] own rest all) (append-nil own) m);
}
end_stepped caller past bound (None ∷ loans) own = record {
  added = [];
  bound = [];
  past = refl;
  binds = sym (append-nil bound);
  its = All-nil (IsBoundBy caller);
  alone = All-nil (IsOf caller.number);
  makes = λ calls rest all m. refused_end caller past calls loans own rest all (subst (λ own. Makes caller past calls loans own rest all) (append-nil own) m);
}
end_stepped caller past bound (Some unmap ∷ loans) own =
    let call : Call = entered past unmap in
    let t : Option ℕ = stopped_flight past call (reply_to past call) in
    record {
      added = Called caller.number call (reply_to past call) ∷ notes Left t;
      bound = [];
      past = noted Left t (step past (Called caller.number call (reply_to past call)));
      binds = sym (append-nil bound);
      its = All-nil (IsBoundBy caller);
      alone = All-cons (IsOf caller.number) (Called caller.number call (reply_to past call)) (notes Left t) refl (left_is_of caller.number t);
      makes = λ calls rest all m. unmap_made caller past unmap loans own calls t rest all
          (subst (λ own. Makes caller (gone_on past (Called caller.number call (reply_to past call) ∷ notes Left t)) calls loans own rest all) (append-nil own) m);
    }

-- any other call
call_made : (caller : PhaseCaller) (past : Past) (c : TraceCall) (call : Call) (loans : List (Option Call)) (own : List Binding) (before after : Option ℕ) (meaning : Meaning) → meaning ≡ meaning_to caller own →
    call_of meaning c ≡ Some call → (r : Reply) (calls : List TraceCall) (rest : History) (all : List Binding) →
    Makes caller (gone_on past (notes Finished before ++ (Called caller.number call r ∷ notes Left after))) calls (loans_after (gone_on past (notes Finished before)) meaning c r loans)
    (own ++ binding_of caller.phase caller.number c r) rest all →
    Makes caller past (c ∷ calls) loans own (notes Finished before ++ (Called caller.number call r ∷ (notes Left after ++ rest))) all
call_made caller past c call loans own before after meaning means is r calls rest all makes =
    let asked : call_of (meaning_to caller own) c ≡ Some call = ap (λ (m : Meaning). call_of m c) (sym means) ∙ is in
    called caller past c calls loans own (notes Finished before ++ (Called caller.number call r ∷ (notes Left after ++ rest))) all call asked
    (record {
      others = notes Finished before;
      call = call;
      reply = r;
      rest = notes Left after ++ rest;
      stands = refl;
      alone = finished_is_no_call caller.number before;
      fits = asked;
    })
    (skipped caller (step (gone_on past (notes Finished before)) (Called caller.number call r)) (notes Left after) (left_is_no_call caller.number after) calls
    (loans_after (gone_on past (notes Finished before)) (meaning_to caller own) c r loans) (own ++ binding_of caller.phase caller.number c r) rest all
    (subst (λ (m : Meaning). Makes caller (gone_on (step (gone_on past (notes Finished before)) (Called caller.number call r)) (notes Left after)) calls (loans_after (gone_on past (notes Finished before)) m c r loans)
    (own ++ binding_of caller.phase caller.number c r) rest all) means
    (subst (λ (now : Past). Makes caller now calls (loans_after (gone_on past (notes Finished before)) meaning c r loans) (own ++ binding_of caller.phase caller.number c r) rest all)
    (gone_further past (notes Finished before) (Called caller.number call r ∷ notes Left after)) makes)))

call_stepped : (caller : PhaseCaller) (r : Replay) (c : TraceCall) (call : Call) (own : List Binding) → handle_of r.bound caller.phase caller.number ≡ meaning_to caller own →
    call_of (handle_of r.bound caller.phase caller.number) c ≡ Some call → Stepped caller r c own
call_stepped caller r c call own means is =
    let meaning : Meaning = handle_of r.bound caller.phase caller.number in
    let before : Option ℕ = asked_flight r.past call in
    let now : Past = ready_for r.past call in
    let answered : Reply = reply_to now call in
    let after : Option ℕ = stopped_flight now call answered in
    let done : made caller.phase caller.number c meaning call r ≡ replayed caller.phase caller.number r c = replayed_call caller.phase caller.number r c call is in
    let first : now ≡ gone_on r.past (notes Finished before) = noted Finished before r.past in
    record {
      added = notes Finished before ++ (Called caller.number call answered ∷ notes Left after);
      bound = binding_of caller.phase caller.number c answered;
      past =
          ap (λ (q : Replay). q.past) (sym done) ∙ noted Left after (step now (Called caller.number call answered))
          ∙ ap (λ (p : Past). gone_on p (Called caller.number call answered ∷ notes Left after)) first
          ∙ sym (gone_further r.past (notes Finished before) (Called caller.number call answered ∷ notes Left after));
      binds = ap (λ (q : Replay). q.bound) (sym done);
      its = bound_by_it caller c answered;
      alone = All-append (IsOf caller.number) (notes Finished before) (Called caller.number call answered ∷ notes Left after) (finished_is_of caller.number before)
          (All-cons (IsOf caller.number) (Called caller.number call answered) (notes Left after) refl (left_is_of caller.number after));
      makes = λ calls rest all m.
          subst (λ (h : History). Makes caller r.past (c ∷ calls) r.loans own h all) (sym (append_assoc (notes Finished before) (Called caller.number call answered ∷ notes Left after) rest))
          (call_made caller r.past c call r.loans own before after meaning means is answered calls rest all
          (subst (λ (p : Past). Makes caller (gone_on r.past (notes Finished before ++ (Called caller.number call answered ∷ notes Left after))) calls (loans_after p meaning c answered r.loans)
          (own ++ binding_of caller.phase caller.number c answered) rest all) first
          (subst (λ (q : Replay). Makes caller (gone_on r.past (notes Finished before ++ (Called caller.number call answered ∷ notes Left after))) calls q.loans
          (own ++ binding_of caller.phase caller.number c answered) rest all) (sym done) m)));
    }

stepped : (caller : PhaseCaller) (r : Replay) (c : TraceCall) (own : List Binding) → handle_of r.bound caller.phase caller.number ≡ meaning_to caller own → Stepped caller r c own
stepped caller r c own means = by (call_of (handle_of r.bound caller.phase caller.number) c) refl
  where
    by : (x : Option Call) → call_of (handle_of r.bound caller.phase caller.number) c ≡ x → Stepped caller r c own
    by None is = subst (λ c. Stepped caller r c own) (sym (ends_a_loan (handle_of r.bound caller.phase caller.number) c is)) (end_stepped caller r.past r.bound r.loans own)
    by (Some call) is = call_stepped caller r c call own means is

-- bindings that a caller does not know mean nothing to it
abbrev pub IsUnknown : PhaseCaller → Binding → Type 0
IsUnknown caller b = is_known caller.phase caller.number b ≡ false

and_false : (x y : Bool) → y ≡ false → (x && y) ≡ false
and_false true y is = is
and_false false y is = refl

not_found : {X : Type 0} (p q : X → Bool) (xs : List X) → All (λ x. q x ≡ false) xs → find (λ x. p x && q x) xs ≡ None
not_found p q [] none = refl
not_found p q (x ∷ xs) none =
    rw (and_false (p x) (q x) (All-head (λ x. q x ≡ false) x xs none)) (not_found p q xs (All-tail (λ x. q x ≡ false) x xs none))

pub means_the_same : (caller : PhaseCaller) (between own : List Binding) → All (IsUnknown caller) between →
    handle_of (caller.known ++ (between ++ own)) caller.phase caller.number ≡ meaning_to caller own
means_the_same caller between own unknown = λ i label. by label i
  where
    by : (label : List ℕ) → handle_of (caller.known ++ (between ++ own)) caller.phase caller.number label ≡ meaning_to caller own label
    by label =
        let p = λ (b : Binding). bytes_eq b.label label && is_known caller.phase caller.number b in
        ap (λ (x : Option Binding). option_map_or (λ b. b.handle) x 0)
        (find-append p caller.known (between ++ own)
        ∙ ap (λ x. option_or (find p caller.known) x) (find-append p between own ∙ ap (λ x. option_or x (find p own)) (not_found (λ b. bytes_eq b.label label) (is_known caller.phase caller.number) between unknown))
        ∙ sym (find-append p caller.known own))

-- what all calls of a caller add to a history, and that it makes them there
pub record Ran (caller : PhaseCaller) (r : Replay) (calls : List TraceCall) (own : List Binding) : Type 0 where
  pub added : History
  pub bound : List Binding
  pub past : (fold (replayed caller.phase caller.number) r calls).past ≡ gone_on r.past added
  pub binds : (fold (replayed caller.phase caller.number) r calls).bound ≡ r.bound ++ bound
  pub its : All (IsBoundBy caller) bound
  pub alone : All (IsOf caller.number) added
  pub makes : (tail : History) → entries_of caller.number tail ≡ [] → Makes caller r.past calls r.loans own (added ++ tail) (own ++ bound)

nothing_to_call : (caller : PhaseCaller) (past : Past) (loans : List (Option Call)) (own : List Binding) (tail : History) → entries_of caller.number tail ≡ [] → Makes caller past [] loans own tail (own ++ [])
unfolding Makes
nothing_to_call caller past loans own tail none = (none, append-nil own)

pub ran : (caller : PhaseCaller) (calls : List TraceCall) (r : Replay) (own between : List Binding) → r.bound ≡ caller.known ++ (between ++ own) → All (IsUnknown caller) between → Ran caller r calls own
ran caller [] r own between is unknown = record {
  added = [];
  bound = [];
  past = refl;
  binds = sym (append-nil r.bound);
  its = All-nil (IsBoundBy caller);
  alone = All-nil (IsOf caller.number);
  makes = λ tail none. nothing_to_call caller r.past r.loans own tail none;
}
ran caller (c ∷ calls) r own between is unknown =
    let means : handle_of r.bound caller.phase caller.number ≡ meaning_to caller own =
    ap (λ bound. handle_of bound caller.phase caller.number) is ∙ means_the_same caller between own unknown in
    let s : Stepped caller r c own = stepped caller r c own means in
    let q : Replay = replayed caller.phase caller.number r c in
    let bound_is : q.bound ≡ caller.known ++ (between ++ (own ++ s.bound)) =
    s.binds ∙ ap (λ bs. bs ++ s.bound) is ∙ append_assoc caller.known (between ++ own) s.bound ∙ ap (λ bs. caller.known ++ bs) (append_assoc between own s.bound) in
    let next : Ran caller q calls (own ++ s.bound) = ran caller calls q (own ++ s.bound) between bound_is unknown in
    record {
      added = s.added ++ next.added;
      bound = s.bound ++ next.bound;
      past = next.past ∙ ap (λ (p : Past). gone_on p next.added) s.past ∙ sym (gone_further r.past s.added next.added);
      binds = next.binds ∙ ap (λ bs. bs ++ next.bound) s.binds ∙ append_assoc r.bound s.bound next.bound;
      its = All-append (IsBoundBy caller) s.bound next.bound s.its next.its;
      alone = All-append (IsOf caller.number) s.added next.added s.alone next.alone;
      makes = λ tail none.
          subst (λ (h : History). Makes caller r.past (c ∷ calls) r.loans own h (own ++ (s.bound ++ next.bound))) (sym (append_assoc s.added next.added tail))
          (s.makes calls (next.added ++ tail) (own ++ (s.bound ++ next.bound))
          (subst (λ (bs : List Binding). Makes caller (gone_on r.past s.added) calls q.loans (own ++ s.bound) (next.added ++ tail) bs) (append_assoc own s.bound next.bound)
          (subst (λ (p : Past). Makes caller p calls q.loans (own ++ s.bound) (next.added ++ tail) ((own ++ s.bound) ++ next.bound)) s.past (next.makes tail none))));
    }
