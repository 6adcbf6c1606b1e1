use Rattle.object_steps.proofs.Given.{gives_back}
use Rattle.object_steps.proofs.carry_laws.loans_are_given_back.Goals as goal

pub returns : goal.returns
returns c = gives_back
