use Rattle.std.proofs.Common.{refl, ap, ◌∙◌}
use Rattle.object_steps.specs.ParameterLoans.{with_bytes}
use Rattle.object_steps.specs.contracts.lent_params.LentParam.{the_view}
use Rattle.object_steps.proofs.ParameterLoanFacts.{lent_written}
use Rattle.object_steps.proofs.lent_params.LentParam.bytes_mut.Goals as goal

pub returns : goal.returns
returns c = (
  (refl, λ w. lent_written (the_view c.self.inside) c.self.inside.bytes.len w c.self.inside.bytes.ok.0 ∙ ap (λ l. with_bytes l w) c.self.view_is),
  record { writes_back = tt; value = c.deref_mut.ensures.value ∙ ap (λ l. l.elements.bytes) c.self.view_is },
)
