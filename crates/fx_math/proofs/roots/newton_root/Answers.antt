use Rattle.std.proofs.Common.{arith}
use Rattle.fx_math.proofs.SquareRoots.{mean_above, positive_root, quotient_below}
use Rattle.fx_math.proofs.roots.newton_root.Goals as goal

pub loop-root-smaller : goal.loop-root-smaller
loop-root-smaller c = omega (arith, quotient_below c.args.n c.loop-root.root c.loop-root-test.true)

pub loop-root-preserved : goal.loop-root-preserved
loop-root-preserved c = (mean_above c.args.n c.loop-root.root (positive_root c.args.n c.loop-root.root c.loop-root-test.true), omega (arith, c.loop-root.invariant.1, quotient_below c.args.n c.loop-root.root c.loop-root-test.true))
