use Rattle.std.proofs.Common.{arith}
use Rattle.ray_kernel.proofs.Boxes.{boxes_all, boxes_next, shape_within}
use Rattle.ray_kernel.proofs.trees.boxes_of.Goals as goal

pub shape_box-requires : goal.shape_box-requires
shape_box-requires g c = record { within = shape_within (g.P.PrimSource.primitives c.args.prims.now) c.loop-i.i _ c.requires c.shape.ensures }

pub loop-i-preserved : goal.loop-i-preserved
loop-i-preserved g c =
    rw c.in_ok-push.ensures.items
    (boxes_next c.loop-i.boxes.items c.loop-i.i (g.P.PrimSource.primitives c.args.prims.now) c.shape_box.result _ c.loop-i.invariant c.shape.ensures c.shape_box.ensures.holds)

pub returns : goal.returns
returns g c = boxes_all c.loop-i.boxes.items c.loop-i.i (g.P.PrimSource.primitives c.args.prims.now) c.loop-i.invariant (omega arith)
