use Rattle.object_steps.proofs.ParameterLoanFacts.{zeros_fit}
use Rattle.object_steps.proofs.lent_params.LentParam.new.Goals as goal

pub invariant_of-result : goal.invariant_of-result
invariant_of-result c = zeros_fit c.args.elem c.args.count c.in_ok-bytes.bytes.items c.requires.element c.in_ok-bytes.ensures
