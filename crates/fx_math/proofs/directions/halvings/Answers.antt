use Rattle.std.proofs.Common.{arith}
use Rattle.fx_math.specs.UnitVector.{halvings}
use Rattle.fx_math.proofs.Lengths.{small_halvings, large_halvings, same_halvings, halvings_is, large_exponent}
use Rattle.fx_math.proofs.directions.halvings.Goals as goal

pub overflow_sub-result : goal.overflow_sub-result
overflow_sub-result c = omega (arith, large_exponent c.args.m c.ilog2.result c.if-m.false c.ilog2.ensures.next_power_gt)

pub returns-then-m-clause-value : goal.returns-then-m-clause-value
returns-then-m-clause-value c = same_halvings c.args.m 0 (halvings c.args.m) (small_halvings c.args.m c.if-m.true) (halvings_is c.args.m)

pub returns-else-m-clause-value : goal.returns-else-m-clause-value
returns-else-m-clause-value c =
    let counted = large_halvings c.args.m c.ilog2.result c.if-m.false c.ilog2.ensures.power_le c.ilog2.ensures.next_power_gt in
    same_halvings c.args.m _ (halvings c.args.m) counted (halvings_is c.args.m)

pub returns-else-m-clause-enough : goal.returns-else-m-clause-enough
returns-else-m-clause-enough c =
    let counted = large_halvings c.args.m c.ilog2.result c.if-m.false c.ilog2.ensures.power_le c.ilog2.ensures.next_power_gt in
    counted.enough
