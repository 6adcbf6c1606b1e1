-- A call whose flight is finished first is answered.
use Rattle.std.proofs.Common.{◌≡◌, true, false, None, refl}
use Rattle.std.specs.Prelude.{IsSome}
use Rattle.past_laws.proofs.Answering.{answered_now}
use Rattle.seq_model.specs.Endings.{waited_flight}
use Rattle.solo_device.proofs.LandFacts.{noted_lands}
use Rattle.solo_device.specs.OneThread.{asked_flight, ready_for}
use Rattle.seq_model.specs.Answers.{answer}
use Rattle.seq_model.specs.Histories.{History}
use Rattle.seq_model.specs.Refusals.{phase_at}
use Rattle.seq_model.specs.State.{ticket_in}
use Rattle.seq_model.specs.Steps.{Past, after}
use Rattle.seq_model.specs.declared.calls.Call.{Call}
use Rattle.seq_model.specs.declared.calls.Call.TheVariants.{FrameReady, MapFrame, RenderFrame}

-- a call that asks for no flight waits for none
waits_for_none : (past : Past) (call : Call) → asked_flight past call ≡ None → waited_flight past call ≡ None
waits_for_none past (FrameReady h true) still = still
waits_for_none past (FrameReady h false) still = refl
waits_for_none past _ still = refl

pub still_answered : (past : Past) (call : Call) → asked_flight past call ≡ None → IsSome (answer past call)
still_answered past call still = answered_now past call (waits_for_none past call still)

-- a call asks for no flight any more
pub nothing_asked : (history : History) (call : Call) → asked_flight (ready_for (after history) call) call ≡ None
nothing_asked history (FrameReady h wait) = noted_lands history (ticket_in (phase_at (after history) h)) h refl
nothing_asked history (MapFrame h c) = noted_lands history (ticket_in (phase_at (after history) h)) h refl
nothing_asked history (RenderFrame h) = noted_lands history (ticket_in (phase_at (after history) h)) h refl
nothing_asked history _ = refl

-- after the flight that it asks for is finished, a call is answered
pub ready_answers : (history : History) (call : Call) → IsSome (answer (ready_for (after history) call) call)
ready_answers history call = still_answered (ready_for (after history) call) call (nothing_asked history call)
