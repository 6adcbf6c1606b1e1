use Rattle.object_steps.proofs.Rested.{follows}
use Rattle.object_steps.proofs.carry_laws.carried_calls_follow.Goals as goal

pub returns : goal.returns
returns c = λ s history actor call r rest counts objects can legal. follows s history actor call r rest counts objects can legal
