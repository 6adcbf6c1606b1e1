use Rattle.object_steps.proofs.ReachLaws.{reaches_of_a_leave}
use Rattle.object_steps.proofs.carry_laws.flights_that_left_reach_no_more.Goals as goal

pub returns : goal.returns
returns c = λ history h t legal. reaches_of_a_leave history h t legal
