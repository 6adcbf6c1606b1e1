use Rattle.world_laws.proofs.Untouched.{untouched_stay}
use Rattle.world_laws.proofs.laws.untouched_objects_stay.Goals as goal

pub returns : goal.returns
returns c = untouched_stay
