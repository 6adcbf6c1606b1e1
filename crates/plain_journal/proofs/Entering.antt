-- What the books are asked and owe where a call is entered.
use Rattle.std.proofs.Common.{List, None, Some, [], ap, arith, cond, length, refl, true, ℕ, ◌++◌, ◌+◌, ◌-◌, ◌<◌, ◌^◌, ◌∷◌, ◌≡◌, ◌≤◌}
use Rattle.std.specs.Prelude.{◌==◌}
use Rattle.std.proofs.lemmas.Bool.{eq-eqb}
use Rattle.seq_model.proofs.Creations.{made_handle}
use Rattle.seq_model.proofs.Granted.{all_none, given}
use Rattle.seq_model.proofs.Handles.{rises}
use Rattle.seq_model.proofs.Keys.{at_within}
use Rattle.seq_model.proofs.Prefixes.{in_place}
use Rattle.seq_model.proofs.Publics.{public_moves}
use Rattle.seq_model.proofs.SoundSteps.{is_alive}
use Rattle.seq_model.specs.Histories.{History, public}
use Rattle.seq_model.specs.Legal.{Legal}
use Rattle.seq_model.specs.Refusals.{own, refusal, refusals_of}
use Rattle.seq_model.specs.State.{Object, Done, object_at}
use Rattle.seq_model.specs.Steps.{after}
use Rattle.seq_model.specs.declared.calls.Call.{Call}
use Rattle.seq_model.specs.declared.calls.Call.TheVariants.{NewObject, NewArray, Retain, Release, UnmapParameterArray}
use Rattle.seq_model.specs.declared.calls.Entry.TheVariants.{Called}
use Rattle.seq_model.specs.declared.calls.Reply.{Reply}
use Rattle.seq_model.specs.declared.calls.Reply.TheVariants as reply
use Rattle.past_laws.proofs.PublicCounts.{public_fits}
use Rattle.plain_journal.specs.Counting.{IsCountable}
use Rattle.plain_objects.specs.Counts.{count_at}

-- what is retained is there
retained_is_alive : (history : History) (actor h : ℕ) → Legal (history ++ Called actor (Retain h) reply.Done ∷ []) → (o : Object) × (object_at (after history).state h ≡ Some o)
unfolding refusal refusals_of
retained_is_alive history actor h legal =
    let none : refusal (after history) (Retain h) ≡ None = (given (after history) (Retain h) reply.Done (in_place history (Called actor (Retain h) reply.Done) [] legal).0 (λ refused is. cc)).0 in
    is_alive (after history) h (all_none (own (after history) h) none).0

-- a call that was answered can be counted
pub countable : (history : History) (actor : ℕ) (c : Call) (r : Reply) (counts : List ℕ) (capacity : ℕ) → Legal (history ++ Called actor c r ∷ []) →
    ((h : ℕ) → count_at counts h ≡ public history h) → length counts + 1 ≡ (after history).state.next → length counts + 1 ≤ capacity → length history < 2 ^ 64 - 1 →
    IsCountable counts capacity c r
countable history actor (NewObject t subtype) (reply.Made h) counts capacity legal counted handles room short =
    (omega (arith, (made_handle history actor h (NewObject t subtype) legal).0, handles), omega (arith, room))
countable history actor (NewObject t subtype) _ counts capacity legal counted handles room short = tt
countable history actor (NewArray elem count stride origin bytes) (reply.Made h) counts capacity legal counted handles room short =
    (omega (arith, (made_handle history actor h (NewArray elem count stride origin bytes) legal).0, handles), omega (arith, room))
countable history actor (NewArray elem count stride origin bytes) _ counts capacity legal counted handles room short = tt
countable history actor (UnmapParameterArray h name number bytes) (reply.Made made) counts capacity legal counted handles room short =
    (omega (arith, (made_handle history actor made (UnmapParameterArray h name number bytes) legal).0, handles), omega (arith, room))
countable history actor (UnmapParameterArray h name number bytes) _ counts capacity legal counted handles room short = tt
countable history actor (Retain h) reply.Done counts capacity legal counted handles room short =
    let there : (o : Object) × (object_at (after history).state h ≡ Some o) = retained_is_alive history actor h legal in
    let within : (1 ≤ h) × (h < (after history).state.next) = at_within h 1 (after history).state.next (after history).state.objects there.0 (rises history) there.1 in
    (within.0, omega (arith, within.1, handles), omega (arith, counted h, public_fits history h, short))
countable history actor (Retain h) _ counts capacity legal counted handles room short = tt
countable history actor (Release h) reply.Done counts capacity legal counted handles room short =
    let moves : public (history ++ Called actor (Release h) reply.Done ∷ []) h + cond (h == h) 1 0 ≡ public history h + 0 + 0 = public_moves history (Called actor (Release h) reply.Done) h legal in
    let itself : (h == h) ≡ true = eq-eqb h h refl in
    let one : 0 + cond (h == h) 1 0 ≡ 1 = ap (λ b. 0 + cond b 1 0) itself in
    omega (arith, moves, one, counted h)
countable history actor (Release h) _ counts capacity legal counted handles room short = tt
countable history actor _ r counts capacity legal counted handles room short = tt
