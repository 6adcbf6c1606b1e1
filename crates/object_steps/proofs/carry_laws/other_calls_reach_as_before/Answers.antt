use Rattle.object_steps.proofs.ReachLaws.{reaches_of_a_call}
use Rattle.object_steps.proofs.carry_laws.other_calls_reach_as_before.Goals as goal

pub returns : goal.returns
returns c = λ history h actor call r none. reaches_of_a_call history h actor call r none
