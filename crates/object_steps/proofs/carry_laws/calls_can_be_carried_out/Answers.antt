use Rattle.object_steps.proofs.Carried.{can_carry}
use Rattle.object_steps.proofs.carry_laws.calls_can_be_carried_out.Goals as goal

pub returns : goal.returns
returns c = λ s history call r rest short room objects is content. can_carry s history rest call r short room objects is content
