use Rattle.scene_read.proofs.GeometryFacts.{triangle_tests_seen}
use Rattle.scene_read.proofs.geometry_ranges.broken_geometry.Goals as goal

pub returns-in-GeometryTriangle : goal.returns-in-GeometryTriangle
returns-in-GeometryTriangle g c =
    rw (c.in-GeometryTriangle.is, triangle_tests_seen (g.O.Objects.objects c.args.state.now) c.args.h c.args.m.now, ← c.array-positions.ensures.value, ← c.array-indices.ensures.value)
    c.broken_triangles.ensures
