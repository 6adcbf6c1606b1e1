use Rattle.object_steps.proofs.ReachLaws.{reaches_of_a_finish}
use Rattle.object_steps.proofs.carry_laws.finished_flights_reach_no_more.Goals as goal

pub returns : goal.returns
returns c = λ history h t legal. reaches_of_a_finish history h t legal
