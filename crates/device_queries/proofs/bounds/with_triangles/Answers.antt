use Rattle.scene_read.specs.Shaped.{triangle_at}
use Rattle.device_queries.proofs.ExtentFacts.{one_more}
use Rattle.device_queries.proofs.bounds.with_triangles.Goals as goal

pub loop-k-preserved : goal.loop-k-preserved
loop-k-preserved c =
    rw (c.with_shape-extent.ensures, c.triangle_at.ensures, c.loop-k.invariant)
    (one_more (triangle_at c.args.m.now c.args.positions.now c.args.indices.now) c.loop-k.k c.args.extent)
