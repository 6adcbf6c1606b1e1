use Rattle.device_laws.proofs.CallFacts.{call_kept, discard_kept, render_kept}
use Rattle.device_laws.proofs.standing_laws.frames_stand_on_by_a_call.Goals as goal

pub returns : goal.returns
returns c = record { called = call_kept; rendered = render_kept; discarded = discard_kept }
