use Rattle.device_laws.proofs.PhaseFacts.{flying_phase}
use Rattle.device_laws.proofs.flight_laws.flights_are_shown_by_their_frames.Goals as goal

pub returns : goal.returns
returns c = flying_phase
