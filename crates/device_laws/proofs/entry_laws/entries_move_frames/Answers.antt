use Rattle.device_laws.proofs.ShowingFacts.{shows_after}
use Rattle.device_laws.proofs.entry_laws.entries_move_frames.Goals as goal

pub returns : goal.returns
returns c = shows_after
