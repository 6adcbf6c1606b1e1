use Rattle.std.proofs.Common.{arith, sym, w32}
use Rattle.std.proofs.lemmas.Int.{to_z-of_z}
use Rattle.std.proofs.lemmas.List.FromFn.{length-map-range_with_len, map-range_with_len_more}
use Rattle.scene_read.specs.Shaped.{sphere_at}
use Rattle.scene_read.proofs.geometries.spheres.Goals as goal

pub loop-k-preserved : goal.loop-k-preserved
loop-k-preserved c =
    rw (c.in_ok-push.ensures.items, c.loop-k.invariant, c.sphere_at.ensures, to_z-of_z w32 c.args.common c.ranges.common)
    (sym (map-range_with_len_more (sphere_at c.args.m.now c.args.positions.now c.args.radii.now c.args.common) 0 c.loop-k.k c.loop-k.k (omega arith)))

pub returns-clause-size : goal.returns-clause-size
returns-clause-size c = rw (c.loop-k.invariant, length-map-range_with_len) (omega arith)
