-- What a store asks of what a call names, and what calls do alike.
use Rattle.std.proofs.Common.{ℕ, ◌≡◌, ◌<◌, ◌∙◌, List, Option, Some, None, Ok, Err, OnOk, MatchResult, refl, sym, ap, subst, arith}
use Rattle.std.specs.Option.{IsSome, MatchOption}
use Rattle.std.specs.declared.result.Result.{Result}
use Rattle.array_objects.specs.Loans.{Loan}
use Rattle.array_objects.specs.declared.arrays.Block.{Block}
use Rattle.dev_types.specs.Counting.{times}
use Rattle.object_store.specs.Kept.{Stored}
use Rattle.object_store.specs.Parts.{array_of, named_in_block, named_with}
use Rattle.object_store.proofs.Gathered.{often_has}
use Rattle.object_store.proofs.NamedFacts.{block_names}
use Rattle.seq_model.specs.Life.{names_of}
use Rattle.seq_model.specs.State.{Object, State, changed_at, object_at}
use Rattle.seq_model.specs.Steps.{change_array, effect, holding}
use Rattle.seq_model.specs.declared.calls.Call.{Call}
use Rattle.seq_model.specs.declared.calls.Call.TheVariants as call
use Rattle.seq_model.specs.declared.calls.Reply.{Reply}
use Rattle.seq_model.specs.declared.calls.Reply.TheVariants as reply
use Rattle.object_steps.specs.Carrying.{AreThere, CanCarry, GivesBack, carried}
use Rattle.object_steps.specs.declared.array_loans.ArrayLoan.{ArrayLoan}
use Rattle.object_steps.specs.declared.array_loans.ArrayLoan.TheVariants as loans

-- who is named so often is there
pub named_there : (s : State) (names : List ℕ) → AreThere s names → (k : ℕ) → 0 < times k names → IsSome (object_at s k)
named_there s names there k named = there k (often_has k names (omega (arith, named)))

-- what the elements of a new array name is there
pub block_there : (s : State) (b : Block) (o : Object) → array_of b ≡ o → AreThere s (names_of o) → (k : ℕ) → 0 < times k (named_in_block (Some b)) → IsSome (object_at s k)
block_there s b o is there k named =
    let names : names_of (array_of b) ≡ named_in_block (Some b) = block_names (Some (record { block = b; loan = None })) in
    named_there s (named_in_block (Some b)) (subst (AreThere s) names (subst (λ o. AreThere s (names_of o)) (sym is) there)) k named

-- what holds of an option holds of what it has
pub of_some : {X : Type 0} (P : X → Type 0) (x : Option X) (v : X) → x ≡ Some v → MatchOption x (Unit {0}) P → P v
of_some P x v is all = subst (λ x. MatchOption x (Unit {0}) P) is all

-- where a call was carried out, its loan is spent
pub spent_ok : {L E A B : Type 0} (changed : Result L E) (result : Result L (E × L)) (loan : L) → MatchResult changed (λ l. result ≡ Ok l) (λ e. result ≡ Err (e, loan)) →
    (A → B) → OnOk changed A → OnOk result B
spent_ok {L} {E} {A} {B} (Ok l) result loan is then a = subst (λ r. OnOk r B) (sym is) (then a)
spent_ok {L} {E} {A} {B} (Err e) result loan is then a = subst (λ r. OnOk r B) (sym is) tt

-- a reply that says of no change
abbrev pub IsStill : Reply → Type 0
IsStill reply.Done = ⊥
IsStill (reply.Made h) = ⊥
IsStill (reply.Lent number) = ⊥
IsStill r = Unit {0}

-- a call that was refused, or only asks, does nothing
pub still_alike : (place : ℕ) (c : Call) (r : Reply) (s : Stored) → IsStill r → CanCarry s c r → s ≡ carried place c r s
unfolding effect
still_alike place (call.MapFrame h channel) (reply.Mapped width height ty rows) s still can = absurd can
still_alike place c reply.Done s still can = absurd still
still_alike place c (reply.Made h) s still can = absurd still
still_alike place c (reply.Lent number) s still can = absurd still
still_alike place c r s still can = refl

-- which handle was made, and which number a loan has, does not matter; nor does the place of what is done here
pub made_alike : (place h : ℕ) (c : Call) (s : Stored) → carried 0 c (reply.Made 0) s ≡ carried place c (reply.Made h) s
unfolding effect
made_alike place h (call.NewObject t subtype) s = refl
made_alike place h (call.NewArray elem count stride origin bytes) s = refl
made_alike place h (call.UnmapParameterArray k name number bytes) s = refl
made_alike place h _ s = refl

pub lent_alike : (place n : ℕ) (c : Call) (s : Stored) → carried place c (reply.Lent place) s ≡ carried place c (reply.Lent n) s
unfolding effect
lent_alike place n (call.MapArray h) s = refl
lent_alike place n (call.MapParameterArray h name elem count) s = refl
lent_alike place n _ s = refl

pub done_alike : (place : ℕ) (c : Call) (s : Stored) → CanCarry s c reply.Done → carried 0 c reply.Done s ≡ carried place c reply.Done s
unfolding effect
done_alike place (call.RenderFrame h) s can = absurd can
done_alike place (call.DiscardFrame h) s can = absurd can
done_alike place (call.UnmapFrame h number) s can = absurd can
done_alike place _ s can = refl

pub ok_then : {L E A B : Type 0} (result : Result L E) → (A → B) → OnOk result A → OnOk result B
ok_then (Ok l) then a = then a
ok_then (Err e) then a = tt

-- an array that comes back by the loan that its call brings
pub taken_back_there : (s : Stored) (c : Call) (with : ArrayLoan) (h number : ℕ) (bytes : List ℕ) (l : Loan) → c ≡ call.UnmapArray h number bytes → with ≡ loans.Lent l →
    CanCarry s c reply.Done → GivesBack c reply.Done with → AreThere s.state (named_with bytes (object_at s.state l.array))
taken_back_there s c with h number bytes l is lent can brings =
    let brought : GivesBack (call.UnmapArray h number bytes) reply.Done (loans.Lent l) = subst (GivesBack (call.UnmapArray h number bytes) reply.Done) lent (subst (λ c. GivesBack c reply.Done with) is brings) in
    let there : CanCarry s (call.UnmapArray h number bytes) reply.Done = subst (λ c. CanCarry s c reply.Done) is can in
    subst (λ k. AreThere s.state (named_with bytes (object_at s.state k))) (sym brought.0) there.1

pub taken_back_alike : (place : ℕ) (s : Stored) (c : Call) (with : ArrayLoan) (h number : ℕ) (bytes : List ℕ) (l : Loan) → c ≡ call.UnmapArray h number bytes → with ≡ loans.Lent l →
    GivesBack c reply.Done with → record s { state = changed_at l.array (change_array (holding bytes)) s.state } ≡ carried place c reply.Done s
unfolding effect
taken_back_alike place s c with h number bytes l is lent brings =
    let brought : GivesBack (call.UnmapArray h number bytes) reply.Done (loans.Lent l) = subst (GivesBack (call.UnmapArray h number bytes) reply.Done) lent (subst (λ c. GivesBack c reply.Done with) is brings) in
    ap (λ k. record s { state = changed_at k (change_array (holding bytes)) s.state }) brought.0 ∙ ap (λ c. carried place c reply.Done s) (sym is)
