use Rattle.frame_future.proofs.ReadLaws.{one_seen}
use Rattle.frame_future.proofs.laws.looks_are_read_to_an_end.Goals as goal

pub returns : goal.returns
returns c = one_seen
