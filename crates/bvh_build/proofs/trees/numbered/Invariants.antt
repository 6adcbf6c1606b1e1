use Rattle.std.proofs.Common.{◌≡◌, take}
use Rattle.bvh_build.specs.Trees.{numbered}
use Rattle.bvh_build.proofs.trees.numbered.Given as goal

abbrev pub invariant-loop-index : goal.invariant-loop-index
invariant-loop-index l = l.items.items ≡ numbered 0 (take l.index l.boxes)
