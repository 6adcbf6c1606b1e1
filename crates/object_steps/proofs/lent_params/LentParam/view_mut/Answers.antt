use Rattle.std.proofs.Common.{rules, sym, ap, ◌∙◌}
use Rattle.object_steps.specs.ParameterLoans.{with_bytes}
use Rattle.object_steps.specs.contracts.lent_params.LentParam.{the_view}
use Rattle.object_steps.proofs.ParameterLoanFacts.{lent_written}
use Rattle.object_steps.proofs.lent_params.LentParam.view_mut.Goals as goal

pub returns : goal.returns
returns c = (
  (sym c.over.ensures.same_borrow, λ w. lent_written (the_view c.self.inside) c.self.inside.bytes.len w c.self.inside.bytes.ok.0 ∙ ap (λ l. with_bytes l w) c.self.view_is),
  record { writes_back = tt; value = search rules },
)
