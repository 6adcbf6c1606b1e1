use Rattle.object_steps.proofs.ReachLaws.{reaches_of_a_render}
use Rattle.object_steps.proofs.carry_laws.renders_reach_more.Goals as goal

pub returns : goal.returns
returns c = λ history h actor f legal. reaches_of_a_render history h actor f legal
