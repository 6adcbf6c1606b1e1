use Rattle.world_laws.proofs.Reaches.{world_stays}
use Rattle.world_laws.proofs.laws.untouched_worlds_stay.Goals as goal

pub returns : goal.returns
returns c = world_stays
