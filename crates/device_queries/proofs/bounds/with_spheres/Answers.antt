use Rattle.std.proofs.Common.{w32}
use Rattle.std.proofs.lemmas.Int.{to_z-of_z}
use Rattle.scene_read.specs.Shaped.{sphere_at}
use Rattle.device_queries.proofs.ExtentFacts.{one_more}
use Rattle.device_queries.proofs.bounds.with_spheres.Goals as goal

pub loop-k-preserved : goal.loop-k-preserved
loop-k-preserved c =
    rw (c.with_shape-extent.ensures, c.sphere_at.ensures, c.loop-k.invariant, to_z-of_z w32 c.args.common c.ranges.common)
    (one_more (sphere_at c.args.m.now c.args.positions.now c.args.radii.now c.args.common) c.loop-k.k c.args.extent)
