-- One caller of a phase, call by call: where it makes the calls that are left, it makes all.
use Rattle.std.proofs.Common.{◌≡◌, ◌∙◌, ◌+◌, ℕ, List, [], ◌∷◌, ◌++◌, Option, Some, None, append_assoc, append-nil, ap, arith, length, length-append, refl, subst, sym}
use Rattle.replay_core.specs.Follows.{PhaseCaller, meaning_to}
use Rattle.replay_core.specs.Labels.{binding_of, call_of}
use Rattle.replay_core.specs.Loans.{loans_after}
use Rattle.replay_core.specs.Runs.{MakesAt, RanCaller, RunsCaller}
use Rattle.replay_core.specs.declared.bindings.Binding.{Binding}
use Rattle.seq_model.specs.Contents.{entered}
use Rattle.seq_model.specs.Histories.{History}
use Rattle.seq_model.specs.Steps.{after}
use Rattle.seq_model.specs.declared.calls.Call.{Call}
use Rattle.seq_model.specs.declared.calls.Entry.TheVariants.{Called}
use Rattle.seq_model.specs.declared.calls.Reply.{Reply}
use Rattle.trace_text.specs.declared.calls.TraceCall.{TraceCall}
use Rattle.trace_text.specs.declared.calls.TraceCall.TheVariants.{EndLoan}
use Rattle.turn_lock.proofs.PlaceLaws.{extends-length, extends-later, rising-append, rising-wider}
use Rattle.turn_lock.specs.Histories.{AreRising, Extends}

-- a caller begins
pub runs_first : (caller : PhaseCaller) (calls : List TraceCall) (seen : History) (mine : List ℕ) → RunsCaller caller calls calls seen mine seen mine [] []
runs_first caller calls seen mine = record { at = []; mine_is = sym (append-nil mine); rising = tt; leads = λ history more at bound makes. makes }

-- what is left leads to the same where it begins with calls at these further places
runs_on : (caller : PhaseCaller) (calls left left' : List TraceCall) (seen : History) (mine : List ℕ) (seen' seen'' : History) (mine' mine'' : List ℕ)
    (loans loans' : List (Option Call)) (own own' : List Binding) (at : List ℕ)
    → Extends seen seen' → Extends seen' seen'' → mine'' ≡ mine' ++ at → AreRising (length seen') (length seen'') at
    → ((history : History) → Extends seen'' history → (more : List ℕ) (bound : List Binding)
    → MakesAt caller history left' loans' own' more bound → MakesAt caller history left loans own (at ++ more) bound)
    → RunsCaller caller calls left seen mine seen' mine' loans own → RunsCaller caller calls left' seen mine seen'' mine'' loans' own'
runs_on caller calls left left' seen mine seen' seen'' mine' mine'' loans loans' own own' at first second mine_is rising leads runs = record {
  at = runs.at ++ at;
  mine_is = mine_is ∙ ap (λ l. l ++ at) runs.mine_is ∙ append_assoc mine runs.at at;
  rising = rising-append (length seen) (length seen') (length seen'') runs.at at (extends-length seen seen' first) (extends-length seen' seen'' second) runs.rising rising;
  leads = λ history longer more bound makes.
      subst (λ l. MakesAt caller history calls [] [] l bound) (sym (append_assoc runs.at at more))
      (runs.leads history (extends-later seen' seen'' history second longer) (at ++ more) bound (leads history longer more bound makes));
}

-- notes alone were seen
pub runs_notes : (caller : PhaseCaller) (calls left : List TraceCall) (seen : History) (mine : List ℕ) (seen' seen'' : History) (mine' : List ℕ) (loans : List (Option Call)) (own : List Binding)
    → Extends seen' seen'' → RunsCaller caller calls left seen mine seen' mine' loans own → RunsCaller caller calls left seen mine seen'' mine' loans own
runs_notes caller calls left seen mine seen' seen'' mine' loans own second runs = record {
  at = runs.at;
  mine_is = runs.mine_is;
  rising = rising-wider (length seen) (length seen) (length seen') (length seen'') runs.at (omega arith) (extends-length seen' seen'' second) runs.rising;
  leads = λ history longer. runs.leads history (extends-later seen' seen'' history second longer);
}

makes_unopened : (caller : PhaseCaller) (history : History) (left : List TraceCall) (own : List Binding) (at : List ℕ) (bound : List Binding)
    → MakesAt caller history left [] own at bound → MakesAt caller history (EndLoan ∷ left) [] own at bound
unfolding MakesAt
makes_unopened caller history left own at bound makes = makes

makes_refused : (caller : PhaseCaller) (history : History) (left : List TraceCall) (loans : List (Option Call)) (own : List Binding) (at : List ℕ) (bound : List Binding)
    → MakesAt caller history left loans own at bound → MakesAt caller history (EndLoan ∷ left) (None ∷ loans) own at bound
unfolding MakesAt
makes_refused caller history left loans own at bound makes = makes

-- the end of a loan where none is open
pub runs_unopened : (caller : PhaseCaller) (calls left : List TraceCall) (seen : History) (mine : List ℕ) (seen' : History) (mine' : List ℕ) (own : List Binding)
    → RunsCaller caller calls (EndLoan ∷ left) seen mine seen' mine' [] own → RunsCaller caller calls left seen mine seen' mine' [] own
runs_unopened caller calls left seen mine seen' mine' own runs = record {
  at = runs.at;
  mine_is = runs.mine_is;
  rising = runs.rising;
  leads = λ history longer more bound makes. runs.leads history longer more bound (makes_unopened caller history left own more bound makes);
}

-- the end of a loan that was refused
pub runs_refused : (caller : PhaseCaller) (calls left : List TraceCall) (seen : History) (mine : List ℕ) (seen' : History) (mine' : List ℕ) (loans : List (Option Call)) (own : List Binding)
    → RunsCaller caller calls (EndLoan ∷ left) seen mine seen' mine' (None ∷ loans) own → RunsCaller caller calls left seen mine seen' mine' loans own
runs_refused caller calls left seen mine seen' mine' loans own runs = record {
  at = runs.at;
  mine_is = runs.mine_is;
  rising = runs.rising;
  leads = λ history longer more bound makes. runs.leads history longer more bound (makes_refused caller history left loans own more bound makes);
}

-- a call that stands in what was seen stands in whatever is seen later
stands_later : (before later : History) (number : ℕ) (call : Call) (reply : Reply) (seen history : History) (longer : Extends seen history)
    → seen ≡ before ++ Called number call reply ∷ later → history ≡ before ++ Called number call reply ∷ (later ++ longer.0)
stands_later before later number call reply seen history longer is =
    longer.1 ∙ ap (λ (h : History). h ++ longer.0) is ∙ append_assoc before (Called number call reply ∷ later) longer.0

-- the place of a call that was added
added_place : (before later : History) (number : ℕ) (call : Call) (reply : Reply) (seen seen' : History) → Extends seen before → seen' ≡ before ++ Called number call reply ∷ later
    → AreRising (length seen) (length seen') ((length before + 1) ∷ [])
added_place before later number call reply seen seen' first is = (
  omega (arith, extends-length seen before first),
  omega (arith, ap length is, length-append before (Called number call reply ∷ later)),
  tt,
)

makes_ended : (caller : PhaseCaller) (history : History) (left : List TraceCall) (loans : List (Option Call)) (own : List Binding) (more : List ℕ) (bound : List Binding)
    (before later : History) (unmap : Call) (reply : Reply)
    → history ≡ before ++ Called caller.number (entered (after before) unmap) reply ∷ later
    → MakesAt caller history left loans own more bound → MakesAt caller history (EndLoan ∷ left) (Some unmap ∷ loans) own ((length before + 1) ∷ more) bound
unfolding MakesAt
makes_ended caller history left loans own more bound before later unmap reply stands makes = (
  record { before = before; call = entered (after before) unmap; reply = reply; later = later; rest = more; stands = stands; place = refl; fits = refl },
  makes,
)

-- a granted loan was ended, by its unmap as it is entered
pub runs_ended : (caller : PhaseCaller) (calls left : List TraceCall) (seen : History) (mine : List ℕ) (seen' seen'' : History) (mine' mine'' : List ℕ)
    (unmap : Call) (loans : List (Option Call)) (own : List Binding) (before later : History) (reply : Reply)
    → Extends seen seen' → Extends seen' before
    → seen'' ≡ before ++ Called caller.number (entered (after before) unmap) reply ∷ later
    → mine'' ≡ mine' ++ (length before + 1) ∷ []
    → RunsCaller caller calls (EndLoan ∷ left) seen mine seen' mine' (Some unmap ∷ loans) own → RunsCaller caller calls left seen mine seen'' mine'' loans own
runs_ended caller calls left seen mine seen' seen'' mine' mine'' unmap loans own before later reply first second is mine_is runs =
    let call : Call = entered (after before) unmap in
    runs_on caller calls (EndLoan ∷ left) left seen mine seen' seen'' mine' mine'' (Some unmap ∷ loans) loans own own ((length before + 1) ∷ []) first
    (extends-later seen' before seen'' second (Called caller.number call reply ∷ later, is)) mine_is (added_place before later caller.number call reply seen' seen'' second is)
    (λ history longer more bound makes. makes_ended caller history left loans own more bound before (later ++ longer.0) unmap reply
    (stands_later before later caller.number call reply seen'' history longer is) makes)
    runs

makes_called : (caller : PhaseCaller) (history : History) (c : TraceCall) (left : List TraceCall) (loans : List (Option Call)) (own : List Binding) (more : List ℕ) (bound : List Binding)
    (before later : History) (call : Call) (reply : Reply)
    → history ≡ before ++ Called caller.number call reply ∷ later
    → call_of (meaning_to caller own) c ≡ Some call
    → MakesAt caller history left (loans_after (after before) (meaning_to caller own) c reply loans) (own ++ binding_of caller.phase caller.number c reply) more bound
    → MakesAt caller history (c ∷ left) loans own ((length before + 1) ∷ more) bound
unfolding MakesAt
makes_called caller history EndLoan left loans own more bound before later call reply stands asked makes = absurd cc
makes_called caller history c left loans own more bound before later call reply stands asked makes = (
  record { before = before; call = call; reply = reply; later = later; rest = more; stands = stands; place = refl; fits = asked },
  makes,
)

-- a call that is no end of a loan was made
pub runs_called : (caller : PhaseCaller) (calls left : List TraceCall) (c : TraceCall) (seen : History) (mine : List ℕ) (seen' seen'' : History) (mine' mine'' : List ℕ)
    (loans : List (Option Call)) (own : List Binding) (before later : History) (call : Call) (reply : Reply)
    → Extends seen seen' → Extends seen' before
    → seen'' ≡ before ++ Called caller.number call reply ∷ later
    → mine'' ≡ mine' ++ (length before + 1) ∷ []
    → call_of (meaning_to caller own) c ≡ Some call
    → RunsCaller caller calls (c ∷ left) seen mine seen' mine' loans own
    → RunsCaller caller calls left seen mine seen'' mine'' (loans_after (after before) (meaning_to caller own) c reply loans) (own ++ binding_of caller.phase caller.number c reply)
runs_called caller calls left c seen mine seen' seen'' mine' mine'' loans own before later call reply first second is mine_is asked runs =
    runs_on caller calls (c ∷ left) left seen mine seen' seen'' mine' mine'' loans (loans_after (after before) (meaning_to caller own) c reply loans)
    own (own ++ binding_of caller.phase caller.number c reply) ((length before + 1) ∷ []) first
    (extends-later seen' before seen'' second (Called caller.number call reply ∷ later, is)) mine_is (added_place before later caller.number call reply seen' seen'' second is)
    (λ history longer more bound makes. makes_called caller history c left loans own more bound before (later ++ longer.0) call reply
    (stands_later before later caller.number call reply seen'' history longer is) asked makes)
    runs

makes_none : (caller : PhaseCaller) (history : History) (loans : List (Option Call)) (own : List Binding) → MakesAt caller history [] loans own [] own
unfolding MakesAt
makes_none caller history loans own = (refl, refl)

-- all calls were made
pub ran_all : (caller : PhaseCaller) (calls : List TraceCall) (seen : History) (mine : List ℕ) (seen' : History) (mine' : List ℕ) (loans : List (Option Call)) (own : List Binding)
    → RunsCaller caller calls [] seen mine seen' mine' loans own → RanCaller caller calls seen mine seen' mine' own
ran_all caller calls seen mine seen' mine' loans own runs = record {
  at = runs.at;
  mine_is = runs.mine_is;
  rising = runs.rising;
  makes = λ history longer.
      subst (λ l. MakesAt caller history calls [] [] l own) (append-nil runs.at) (runs.leads history longer [] own (makes_none caller history loans own));
}
