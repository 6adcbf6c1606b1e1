use Rattle.frame_future.proofs.DoneLaws.{ended_done}
use Rattle.frame_future.proofs.laws.an_ended_flight_is_done.Goals as goal

pub returns : goal.returns
returns c = ended_done
