use Rattle.device_laws.proofs.FramesStandFacts.{fewer_kept, frames_first, looked_stands}
use Rattle.device_laws.proofs.LoanFacts.{same_kept}
use Rattle.device_laws.proofs.standing_laws.frames_stand_between_entries.Goals as goal

pub returns : goal.returns
returns c = record { starts = frames_first; looked = looked_stands; same = same_kept; fewer = fewer_kept }
