use Rattle.object_steps.proofs.Starts.{rests_first}
use Rattle.object_steps.proofs.carry_laws.new_stores_rest.Goals as goal

pub returns : goal.returns
returns c = rests_first
