use Rattle.frame_future.proofs.ReadLaws.{none_seen}
use Rattle.frame_future.proofs.laws.looks_are_read.Goals as goal

pub returns : goal.returns
returns c = none_seen
