use Rattle.frame_future.proofs.AloneLaws.{stopped_ends}
use Rattle.frame_future.proofs.laws.a_stopped_flight_of_one_seat_ends.Goals as goal

pub returns : goal.returns
returns c = stopped_ends
