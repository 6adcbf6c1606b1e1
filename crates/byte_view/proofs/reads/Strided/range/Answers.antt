use Rattle.std.proofs.Common.{ap}
use Rattle.byte_view.specs.Elements.{Elements}
use Rattle.byte_view.proofs.ElementFacts.{range_fits}
use Rattle.byte_view.proofs.reads.Strided.range.Goals as goal

pub invariant_of-result : goal.invariant_of-result
invariant_of-result c = rw (c.bytes_from-bytes.ensures.value, ← c.self.view_is) (range_fits _ c.args.i c.args.j c.self.invariant c.requires.ordered (rw (ap (λ (e : Elements). e.count) c.self.view_is) c.requires.within))
