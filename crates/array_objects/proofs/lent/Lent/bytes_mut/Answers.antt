use Rattle.std.proofs.Common.{refl, ap, ◌∙◌}
use Rattle.array_objects.specs.Loans.{with_bytes}
use Rattle.array_objects.specs.contracts.lent.Lent.{the_view}
use Rattle.array_objects.proofs.LoanFacts.{lent_written}
use Rattle.array_objects.proofs.lent.Lent.bytes_mut.Goals as goal

pub returns : goal.returns
returns c = (
  (refl, λ w. lent_written (the_view c.self.inside) c.self.inside.bytes.len w c.self.inside.bytes.ok.0 ∙ ap (λ l. with_bytes l w) c.self.view_is),
  record { writes_back = tt; value = c.deref_mut.ensures.value ∙ ap (λ l. l.elements.bytes) c.self.view_is },
)
