use Rattle.ray_kernel.proofs.Boxes.{AreFor}
use Rattle.ray_kernel.proofs.trees.boxes_of.Given as goal

abbrev pub invariant-loop-i : goal.invariant-loop-i
invariant-loop-i g l = AreFor l.boxes.items l.i (g.P.PrimSource.primitives l.prims)
