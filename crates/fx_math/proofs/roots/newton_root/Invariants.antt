use Rattle.std.proofs.Common.{◌+◌, ◌*◌, ◌^◌, ◌<◌}
use Rattle.fx_math.proofs.roots.newton_root.Given as goal

abbrev pub invariant-loop-root : goal.invariant-loop-root
invariant-loop-root l = (l.n < (l.root + 1) * (l.root + 1)) × (l.root < 2 ^ 32)

abbrev pub decreases-loop-root : goal.decreases-loop-root
decreases-loop-root l = l.root
