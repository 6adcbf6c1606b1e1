use Rattle.device_laws.proofs.LentFacts.{flights_map_nothing, nothing_mapped}
use Rattle.device_laws.proofs.loan_laws.mapped_frames_have_pictures.Goals as goal

pub returns : goal.returns
returns c = record { flights = flights_map_nothing; unmapped = nothing_mapped }
