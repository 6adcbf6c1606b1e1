use Rattle.std.proofs.Common.{arith}
use Rattle.bvh_build.proofs.Growths.{held_next}
use Rattle.bvh_build.proofs.growth.bounds_of.Goals as goal

pub loop-item-preserved : goal.loop-item-preserved
loop-item-preserved c = held_next c.args.items.now c.loop-item.item-index c.loop-item.bounds c.join-bounds.result _ c.loop-item.invariant c.loop-item-test.true c.join-bounds.ensures.first c.join-bounds.ensures.second

pub returns : goal.returns
returns c = λ k d h. c.loop-item.invariant k d (omega arith)
