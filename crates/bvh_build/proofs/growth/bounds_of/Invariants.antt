use Rattle.std.proofs.Common.{ℕ, ◌<◌, get_or}
use Rattle.box_tests.specs.Boxes.{IsBoxIn}
use Rattle.bvh_build.specs.declared.trees.Item.{Item}
use Rattle.bvh_build.proofs.growth.bounds_of.Given as goal

abbrev pub invariant-loop-item : goal.invariant-loop-item
invariant-loop-item l = (k : ℕ) (d : Item) → k < l.item-index → IsBoxIn (get_or l.items k d).bounds l.bounds
