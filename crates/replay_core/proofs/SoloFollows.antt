-- The history of a trace on one thread follows the trace.
use Rattle.std.proofs.Common.{ℕ, suc, ◌+◌, ◌==◌, ◌≡◌, ◌<◌, ◌≤◌, ◌∙◌, ◌&&◌, ◌||◌, Bool, false, List, [], ◌∷◌, ◌++◌, All, Option, Some, None, IfSome, fold, length, map, refl, sym, ap, subst, append_assoc, arith}
use Rattle.std.specs.Prelude.{nat_lt}
use Rattle.std.specs.List.{enumerate_from, filter, last_or}
use Rattle.std.proofs.lemmas.Bool.Decides.{nat_tests}
use Rattle.std.proofs.lemmas.List.{append-nil}
use Rattle.std.proofs.lemmas.List.Elements.{All-nil, All-cons, All-append, All-head, All-tail, All-weaker}
use Rattle.replay_core.proofs.Making.{IsBoundBy, IsOf, IsUnknown, Ran, gone_further, ran, skipped}
use Rattle.replay_core.specs.Follows.{AreOfFirst, BeginsWith, EachMakes, Follows, GoesThrough, Makes, PhaseCaller, gone_on}
use Rattle.replay_core.specs.Solo.{Replay, caller_replayed, phase_replayed, solo, trace_replayed}
use Rattle.replay_core.specs.declared.bindings.Binding.{Binding}
use Rattle.seq_model.proofs.Afters.{seen_is_history}
use Rattle.seq_model.specs.Endings.{ended, open_flights}
use Rattle.seq_model.specs.Histories.{History, caller_of, entries_of, is_call_of}
use Rattle.seq_model.specs.Steps.{Past, after, start, step}
use Rattle.seq_model.specs.declared.calls.Entry.{Entry}
use Rattle.seq_model.specs.declared.calls.Entry.TheVariants.{Called, Left, Closed}
use Rattle.trace_text.specs.declared.calls.Caller.{Caller}
use Rattle.trace_text.specs.declared.calls.Phase.{Phase}
use Rattle.trace_text.specs.declared.calls.Trace.{Trace}

-- the entry is no call of a caller from this number on, and none of one below it
abbrev IsBelow : ℕ → Entry → Type 0
IsBelow n e = IfSome (caller_of e) (λ c. c < n)

abbrev IsFrom : ℕ → Entry → Type 0
IsFrom n e = IfSome (caller_of e) (λ c. n ≤ c)

other_caller : (c n : ℕ) → (c ≡ n → ⊥) → (c == n) ≡ false
other_caller c n other = grind (arith, nat_tests)

not_below : (n : ℕ) (e : Entry) → IsBelow n e → is_call_of n e ≡ false
not_below n (Called c call r) below = other_caller c n (λ same. omega (arith, below, same))
not_below n _ below = refl

not_from : (n : ℕ) (e : Entry) → IsFrom (n + 1) e → is_call_of n e ≡ false
not_from n (Called c call r) from = other_caller c n (λ same. omega (arith, from, same))
not_from n _ from = refl

none_passes : {X : Type 0} (p : X → Bool) (xs : List X) → All (λ x. p x ≡ false) xs → filter p xs ≡ []
none_passes p [] none = refl
none_passes p (x ∷ xs) none = rw (All-head (λ x. p x ≡ false) x xs none) (none_passes p xs (All-tail (λ x. p x ≡ false) x xs none))

none_below : (n : ℕ) (h : History) → All (IsBelow n) h → entries_of n h ≡ []
none_below n h below = none_passes (is_call_of n) h (All-weaker (IsBelow n) (λ e. is_call_of n e ≡ false) (not_below n) h below)

none_from : (n : ℕ) (h : History) → All (IsFrom (n + 1)) h → entries_of n h ≡ []
none_from n h from = none_passes (is_call_of n) h (All-weaker (IsFrom (n + 1)) (λ e. is_call_of n e ≡ false) (not_from n) h from)

of_is_from : (n : ℕ) (e : Entry) → IsOf n e → IsFrom n e
of_is_from n (Called c call r) same = omega (arith, same)
of_is_from n _ same = tt

of_is_below : (n m : ℕ) → n < m → (e : Entry) → IsOf n e → IsBelow m e
of_is_below n m less (Called c call r) same = omega (arith, less, same)
of_is_below n m less _ same = tt

below_more : (n m : ℕ) → n ≤ m → (e : Entry) → IsBelow n e → IsBelow m e
below_more n m less (Called c call r) below = omega (arith, less, below)
below_more n m less _ below = tt

from_less : (n m : ℕ) → m ≤ n → (e : Entry) → IsFrom n e → IsFrom m e
from_less n m less (Called c call r) from = omega (arith, less, from)
from_less n m less _ from = tt

-- a binding of an earlier caller of the same phase, which this caller does not know
abbrev IsEarlier : ℕ → ℕ → Binding → Type 0
IsEarlier phase n b = (b.phase ≡ phase) × (b.caller < n)

unknown_by : (phase n x y : ℕ) → x ≡ phase → y < n → (nat_lt x phase || (x == phase && y == n)) ≡ false
unknown_by phase n x y same less = grind (arith, nat_tests)

earlier_is_unknown : (phase n : ℕ) (known : List Binding) (b : Binding) → IsEarlier phase n b → IsUnknown (record { phase = phase; number = n; known = known }) b
earlier_is_unknown phase n known b earlier = unknown_by phase n b.phase b.caller earlier.0 earlier.1

-- what the callers of a phase add to a history, where the first of them has this number, and that they make their calls there
record CallersRan (phase : ℕ) (known : List Binding) (first : Past) (before : History) (skipped : List Binding) (number : ℕ) (callers : List Caller) (r : Replay) : Type 0 where
  added : History
  bound : List Binding
  past : (fold (caller_replayed phase) r (enumerate_from number callers)).past ≡ gone_on first (before ++ added)
  binds : (fold (caller_replayed phase) r (enumerate_from number callers)).bound ≡ known ++ (skipped ++ bound)
  from : All (IsFrom number) added
  below : All (IsBelow (number + length callers)) added
  makes : (tail : History) → All (IsFrom (number + length callers)) tail → EachMakes phase known first (before ++ (added ++ tail)) number callers bound

none_makes : (phase : ℕ) (known : List Binding) (first : Past) (h : History) (number : ℕ) → EachMakes phase known first h number [] []
unfolding EachMakes
none_makes phase known first h number = refl

one_makes : (phase : ℕ) (known : List Binding) (first : Past) (h : History) (number : ℕ) (c : Caller) (callers : List Caller) (own others : List Binding) →
    Makes (record { phase = phase; number = number; known = known }) first c.calls [] [] h own → EachMakes phase known first h (number + 1) callers others →
    EachMakes phase known first h number (c ∷ callers) (own ++ others)
unfolding EachMakes
one_makes phase known first h number c callers own others makes each = (own, others, refl, makes, each)

callers_ran : (phase : ℕ) (known : List Binding) (first : Past) (callers : List Caller) (number : ℕ) (before : History) (skipped_ : List Binding) (r : Replay) →
    r.past ≡ gone_on first before → r.bound ≡ known ++ skipped_ → All (IsBelow number) before → All (IsEarlier phase number) skipped_ →
    CallersRan phase known first before skipped_ number callers r
callers_ran phase known first [] number before skipped_ r past_is bound_is below earlier = record {
  added = [];
  bound = [];
  past = past_is ∙ ap (gone_on first) (sym (append-nil before));
  binds = bound_is ∙ ap (λ bs. known ++ bs) (sym (append-nil skipped_));
  from = All-nil (IsFrom number);
  below = All-nil (IsBelow (number + 0));
  makes = λ tail from. none_makes phase known first (before ++ tail) number;
}
callers_ran phase known first (c ∷ callers) number before skipped_ r past_is bound_is below earlier =
    let who : PhaseCaller = record { phase = phase; number = number; known = known } in
    let r0 : Replay = record { past = r.past; bound = r.bound; loans = [] } in
    let run : Ran who r0 c.calls [] = ran who c.calls r0 [] skipped_ (bound_is ∙ ap (λ bs. known ++ bs) (sym (append-nil skipped_)))
    (All-weaker (IsEarlier phase number) (IsUnknown who) (earlier_is_unknown phase number known) skipped_ earlier) in
    let q : Replay = caller_replayed phase r (number, c) in
    let less : number < number + 1 = omega arith in
    let le : number ≤ number + 1 = omega arith in
    let last : number + 1 + length callers ≡ number + suc (length callers) = omega arith in
    let under : number < number + suc (length callers) = omega arith in
    let next : CallersRan phase known first (before ++ run.added) (skipped_ ++ run.bound) (number + 1) callers q =
    callers_ran phase known first callers (number + 1) (before ++ run.added) (skipped_ ++ run.bound) q
    (run.past ∙ ap (λ (p : Past). gone_on p run.added) past_is ∙ sym (gone_further first before run.added))
    (run.binds ∙ ap (λ bs. bs ++ run.bound) bound_is ∙ append_assoc known skipped_ run.bound)
    (All-append (IsBelow (number + 1)) before run.added (All-weaker (IsBelow number) (IsBelow (number + 1)) (below_more number (number + 1) le) before below)
    (All-weaker (IsOf number) (IsBelow (number + 1)) (of_is_below number (number + 1) less) run.added run.alone))
    (All-append (IsEarlier phase (number + 1)) skipped_ run.bound
    (All-weaker (IsEarlier phase number) (IsEarlier phase (number + 1)) (λ b e. (e.0, omega (arith, e.1))) skipped_ earlier)
    (All-weaker (IsBoundBy who) (IsEarlier phase (number + 1)) (λ b its. (its.0, omega (arith, its.1))) run.bound run.its)) in
    record {
      added = run.added ++ next.added;
      bound = run.bound ++ next.bound;
      past = next.past ∙ ap (gone_on first) (append_assoc before run.added next.added);
      binds = next.binds ∙ ap (λ bs. known ++ bs) (append_assoc skipped_ run.bound next.bound);
      from = All-append (IsFrom number) run.added next.added (All-weaker (IsOf number) (IsFrom number) (of_is_from number) run.added run.alone)
          (All-weaker (IsFrom (number + 1)) (IsFrom number) (from_less (number + 1) number le) next.added next.from);
      below = All-append (IsBelow (number + suc (length callers))) run.added next.added
          (All-weaker (IsOf number) (IsBelow (number + suc (length callers))) (of_is_below number (number + suc (length callers)) under) run.added run.alone)
          (subst (λ n. All (IsBelow n) next.added) last next.below);
      makes = λ tail from.
          let behind : All (IsFrom (number + 1 + length callers)) tail = subst (λ n. All (IsFrom n) tail) (sym last) from in
          let wide : number + 1 ≤ number + 1 + length callers = omega arith in
          let none : entries_of number (next.added ++ tail) ≡ [] =
          none_from number (next.added ++ tail) (All-append (IsFrom (number + 1)) next.added tail next.from
          (All-weaker (IsFrom (number + 1 + length callers)) (IsFrom (number + 1)) (from_less (number + 1 + length callers) (number + 1) wide) tail behind)) in
          let whole : before ++ (run.added ++ (next.added ++ tail)) ≡ before ++ ((run.added ++ next.added) ++ tail) =
          ap (λ h. before ++ h) (sym (append_assoc run.added next.added tail)) in
          one_makes phase known first (before ++ ((run.added ++ next.added) ++ tail)) number c callers run.bound next.bound
          (subst (λ h. Makes who first c.calls [] [] h run.bound) whole
          (skipped who first before (none_below number before below) c.calls [] [] (run.added ++ (next.added ++ tail)) run.bound
          (subst (λ (p : Past). Makes who p c.calls [] [] (run.added ++ (next.added ++ tail)) run.bound) past_is (run.makes (next.added ++ tail) none))))
          (subst (λ h. EachMakes phase known first h (number + 1) callers next.bound) (append_assoc before run.added (next.added ++ tail) ∙ whole) (next.makes tail behind));
    }

-- what the phases add to a history, and that it goes through them
record PhasesRan (number : ℕ) (known : List Binding) (phases : List Phase) (r : Replay) : Type 0 where
  added : History
  past : (fold phase_replayed r (enumerate_from number phases)).past ≡ gone_on r.past added
  goes : (tail : History) → AreOfFirst 0 tail → GoesThrough number known r.past phases (added ++ tail)

pub nothing_left : (number : ℕ) (known : List Binding) (past : Past) (tail : History) → AreOfFirst 0 tail → GoesThrough number known past [] tail
unfolding GoesThrough
nothing_left number known past tail alone = alone

pub one_phase : (number : ℕ) (known : List Binding) (past : Past) (phase : Phase) (phases : List Phase) (h : History) (begins : BeginsWith number known past phase.callers h) →
    GoesThrough (number + 1) (known ++ begins.bound) (gone_on past begins.part) phases begins.rest → GoesThrough number known past (phase ∷ phases) h
unfolding GoesThrough
one_phase number known past phase phases h begins goes = (begins, goes)

phases_ran : (phases : List Phase) (number : ℕ) (known : List Binding) (r : Replay) → r.bound ≡ known → PhasesRan number known phases r
phases_ran [] number known r is = record { added = []; past = refl; goes = λ tail alone. nothing_left number known r.past tail alone }
phases_ran (phase ∷ phases) number known r is =
    let run : CallersRan number known r.past [] [] 0 phase.callers r =
    callers_ran number known r.past phase.callers 0 [] [] r refl (is ∙ sym (append-nil known)) (All-nil (IsBelow 0)) (All-nil (IsEarlier number 0)) in
    let q : Replay = phase_replayed r (number, phase) in
    let next : PhasesRan (number + 1) (known ++ run.bound) phases q = phases_ran phases (number + 1) (known ++ run.bound) q run.binds in
    let count : 0 + length phase.callers ≡ length phase.callers = omega arith in
    record {
      added = run.added ++ next.added;
      past = next.past ∙ ap (λ (p : Past). gone_on p next.added) run.past ∙ sym (gone_further r.past run.added next.added);
      goes = λ tail alone.
          one_phase number known r.past phase phases ((run.added ++ next.added) ++ tail)
          (record {
            part = run.added;
            rest = next.added ++ tail;
            bound = run.bound;
            is = append_assoc run.added next.added tail;
            makes = subst (λ h. EachMakes number known r.past h 0 phase.callers run.bound) (append-nil run.added) (run.makes [] (All-nil (IsFrom (0 + length phase.callers))));
            alone = subst (λ n. All (IsBelow n) run.added) count run.below;
          })
          (subst (λ (p : Past). GoesThrough (number + 1) (known ++ run.bound) p phases (next.added ++ tail)) run.past (next.goes tail alone));
    }

-- the flights leave, and the device is closed
abbrev last_entries : Past → History
last_entries past = map Left (open_flights past) ++ Closed ∷ []

leaving : (past : Past) (tickets : List ℕ) → fold (λ (p : Past) t. step p (Left t)) past tickets ≡ gone_on past (map Left tickets)
leaving past [] = refl
leaving past (t ∷ tickets) = leaving (step past (Left t)) tickets

ended_is : (past : Past) → ended past ≡ gone_on past (last_entries past)
ended_is past = ap (λ (p : Past). step p Closed) (leaving past (open_flights past)) ∙ sym (gone_further past (map Left (open_flights past)) (Closed ∷ []))

left_are_none : (tickets : List ℕ) → AreOfFirst 0 (map Left tickets)
left_are_none [] = All-nil (IsBelow 0)
left_are_none (t ∷ tickets) = All-cons (IsBelow 0) (Left t) (map Left tickets) tt (left_are_none tickets)

pub last_is : (h : History) (e : Entry) (other : Option Entry) → last_or other (h ++ e ∷ []) ≡ Some e
last_is [] e other = refl
last_is (x ∷ h) e other = last_is h e (Some x)

seen_is : (h : History) → (gone_on start h).seen ≡ h
unfolding after
seen_is h = seen_is_history h

pub follows_by : (trace : Trace) (h : History) → GoesThrough 0 [] start trace.phases h → last_or None h ≡ Some Closed → Follows trace h
unfolding Follows
follows_by trace h goes last = (goes, last)

solo_is : (trace : Trace) → solo trace ≡ (ended (trace_replayed trace).past).seen
unfolding solo
solo_is trace = refl

pub solo_follows : (trace : Trace) → Follows trace (solo trace)
solo_follows trace =
    let r : Replay = record { past = start; bound = []; loans = [] } in
    let run : PhasesRan 0 [] trace.phases r = phases_ran trace.phases 0 [] r refl in
    let last : History = last_entries (trace_replayed trace).past in
    let is : run.added ++ last ≡ solo trace =
    sym (seen_is (run.added ++ last)) ∙ ap (λ (p : Past). p.seen) (gone_further start run.added last ∙ ap (λ (p : Past). gone_on p last) (sym run.past) ∙ sym (ended_is (trace_replayed trace).past)) ∙ sym (solo_is trace) in
    subst (Follows trace) is
    (follows_by trace (run.added ++ last)
    (run.goes last (All-append (IsBelow 0) (map Left (open_flights (trace_replayed trace).past)) (Closed ∷ []) (left_are_none (open_flights (trace_replayed trace).past)) (All-cons (IsBelow 0) Closed [] tt (All-nil (IsBelow 0)))))
    (ap (last_or None) (sym (append_assoc run.added (map Left (open_flights (trace_replayed trace).past)) (Closed ∷ []))) ∙ last_is (run.added ++ map Left (open_flights (trace_replayed trace).past)) Closed None))
