use Rattle.std.proofs.Common.{arith, sym}
use Rattle.std.proofs.lemmas.List.FromFn.{length-map-range_with_len, map-range_with_len_more}
use Rattle.scene_read.specs.Shaped.{triangle_at}
use Rattle.scene_read.proofs.geometries.triangles.Goals as goal

pub loop-k-preserved : goal.loop-k-preserved
loop-k-preserved c =
    rw (c.in_ok-push.ensures.items, c.loop-k.invariant, c.triangle_at.ensures)
    (sym (map-range_with_len_more (triangle_at c.args.m.now c.args.positions.now c.args.indices.now) 0 c.loop-k.k c.loop-k.k (omega arith)))

pub returns-clause-size : goal.returns-clause-size
returns-clause-size c = rw (c.loop-k.invariant, length-map-range_with_len) (omega arith)
