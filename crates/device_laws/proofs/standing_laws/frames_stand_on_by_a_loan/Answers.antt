use Rattle.device_laws.proofs.LoanFacts.{map_kept, unmap_kept}
use Rattle.device_laws.proofs.standing_laws.frames_stand_on_by_a_loan.Goals as goal

pub returns : goal.returns
returns c = record { mapped = map_kept; unmapped = unmap_kept }
