-- What a call does to a frame, and when it is done.
use Rattle.std.proofs.Common.{◌≡◌, ℕ, false, Option, None, Some, refl, ap}
use Rattle.std.specs.Option.{IsSome, is_none, option_map, option_or}
use Rattle.dev_types.specs.declared.refusals.Refused.{Refused}
use Rattle.dev_types.specs.declared.refusals.Refused.TheVariants.{BadHandle}
use Rattle.object_steps.specs.Applying.{tells_of_flights}
use Rattle.object_steps.specs.Carrying.{Brings, handed}
use Rattle.object_steps.specs.Resting.{IsOfObjects}
use Rattle.object_steps.specs.declared.array_loans.ArrayLoan.{ArrayLoan}
use Rattle.seq_model.specs.Answers.{answer, granted}
use Rattle.seq_model.specs.Contents.{entered}
use Rattle.seq_model.specs.Legal.{reading}
use Rattle.seq_model.specs.Refusals.{refusal, refusals_of}
use Rattle.seq_model.specs.State.{Object, State, object_at}
use Rattle.seq_model.specs.Steps.{Past}
use Rattle.seq_model.specs.declared.calls.Call.{Call}
use Rattle.seq_model.specs.declared.calls.Call.TheVariants.{FrameReady, RenderFrame, DiscardFrame, MapFrame, UnmapArray, UnmapFrame, UnmapParameterArray}
use Rattle.seq_model.specs.declared.calls.Entry.TheVariants.{Called}
use Rattle.seq_model.specs.declared.calls.Reply.{Reply}
use Rattle.seq_model.specs.declared.calls.Reply.TheVariants as reply
use Rattle.seq_model.proofs.Granted.{AllNone, all_none, does_not_apply}
use Rattle.device_parts.specs.Calls.{move_of}
use Rattle.device_parts.specs.declared.calls.Move.{Move}
use Rattle.device_parts.specs.declared.calls.Move.TheVariants as move

-- a call that tells of no flight, and moves nothing of a frame
pub nothing_moves : (call : Call) (r : Reply) → tells_of_flights call ≡ false → move_of call r ≡ move.Nothing → IsOfObjects call r
nothing_moves (RenderFrame h) reply.Done quiet still = absurd cc
nothing_moves (MapFrame h channel) (reply.Mapped width height t rows) quiet still = absurd cc
nothing_moves (DiscardFrame h) reply.Done quiet still = absurd cc
nothing_moves (UnmapFrame h number) reply.Done quiet still = absurd cc
nothing_moves call r quiet still = tt

-- nor does its reply tell of one
pub reads_nothing : (past : Past) (actor : ℕ) (call : Call) (r : Reply) → tells_of_flights call ≡ false → reading past (Called actor call r) ≡ None
reads_nothing past actor (RenderFrame h) r quiet = absurd cc
reads_nothing past actor (FrameReady h wait) r quiet = absurd cc
reads_nothing past actor (MapFrame h channel) r quiet = absurd cc
reads_nothing past actor call r quiet = refl

frame_of : ℕ → Move → ℕ
frame_of d (move.Discard h) = h
frame_of d _ = d

pub discard_is : (call : Call) (r : Reply) (h : ℕ) → move_of call r ≡ move.Discard h → (call ≡ DiscardFrame h) × (r ≡ reply.Done)
unfolding frame_of
discard_is (DiscardFrame k) reply.Done h is = (ap DiscardFrame (ap (frame_of k) is), refl)
discard_is (UnmapFrame k number) reply.Done h is = absurd cc
discard_is call r h is = absurd cc

loan_frame : ℕ → Move → ℕ
loan_frame d (move.Unmap h number) = h
loan_frame d _ = d

loan_number : ℕ → Move → ℕ
loan_number d (move.Unmap h number) = number
loan_number d _ = d

pub unmap_is : (call : Call) (r : Reply) (h number : ℕ) → move_of call r ≡ move.Unmap h number → (call ≡ UnmapFrame h number) × (r ≡ reply.Done)
unfolding loan_frame loan_number
unmap_is (UnmapFrame k n) reply.Done h number is = ((λ i. UnmapFrame (loan_frame k (is i)) (loan_number n (is i))), refl)
unmap_is (DiscardFrame k) reply.Done h number is = absurd cc
unmap_is call r h number is = absurd cc

-- a call that is done was not refused
pub done_is_granted : (past : Past) (call : Call) → answer past call ≡ Some reply.Done → refusal past call ≡ None
unfolding answer
done_is_granted past call is = by (refusal past call) refl is
  where
    by : (x : Option Refused) → refusal past call ≡ x → option_or (option_map reply.Denied x) (granted past call) ≡ Some reply.Done → refusal past call ≡ None
    by None none is = none
    by (Some refused) some is = absurd cc

-- a frame that is discarded is there
pub discarded_is_there : (past : Past) (h : ℕ) → refusal past (DiscardFrame h) ≡ None → IsSome (object_at past.state h)
unfolding refusal refusals_of
discarded_is_there past h none =
    let facts : AllNone (refusals_of past (DiscardFrame h)) = all_none (refusals_of past (DiscardFrame h)) none in
    some_if (object_at past.state h) (does_not_apply (is_none (object_at past.state h)) (BadHandle h) facts.0)
  where
    some_if : (o : Option Object) → is_none o ≡ false → IsSome o
    some_if None is = absurd cc
    some_if (Some o) is = refl

-- such a call brings no loan, and hands out none
pub moved_hands : (past : Past) (place : ℕ) (s : State) (call : Call) (r : Reply) (with : ArrayLoan) → (move_of (entered past call) r ≡ move.Nothing → ⊥) → Brings call with → with ≡ handed place (entered past call) r s with
unfolding entered
moved_hands past place s (DiscardFrame h) reply.Done with moves brings = brings
moved_hands past place s (UnmapFrame h number) reply.Done with moves brings = brings
moved_hands past place s (UnmapArray h number bytes) r with moves brings = absurd (moves refl)
moved_hands past place s (UnmapParameterArray h name number bytes) r with moves brings = absurd (moves refl)
moved_hands past place s call r with moves brings = absurd (moves refl)
