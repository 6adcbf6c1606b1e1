use Rattle.object_steps.proofs.ReachLaws.{references_stay as law}
use Rattle.object_steps.proofs.carry_laws.references_stay.Goals as goal

pub returns : goal.returns
returns c = law
