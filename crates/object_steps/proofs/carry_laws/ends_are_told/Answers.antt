use Rattle.object_steps.proofs.Rested.{ends_told}
use Rattle.object_steps.proofs.carry_laws.ends_are_told.Goals as goal

pub returns : goal.returns
returns c = λ moved left history e is is_buried open_. ends_told history e moved is left is_buried open_
