use Rattle.frame_future.proofs.AloneLaws.{fresh_reads_nothing}
use Rattle.frame_future.proofs.laws.a_fresh_flight_reads_nothing.Goals as goal

pub returns : goal.returns
returns c = fresh_reads_nothing
