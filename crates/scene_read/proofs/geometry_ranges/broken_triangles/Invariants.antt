use Rattle.std.proofs.Common.{◌≡◌, drop}
use Rattle.std.specs.List.{flat_map}
use Rattle.kind_tables.specs.Ranges.{first_broken, triangle_tests}
use Rattle.scene_read.specs.Shaped.{corners_in, vectors_in}
use Rattle.scene_read.proofs.geometry_ranges.broken_triangles.Given as goal

-- the first one is among those that are left
abbrev pub invariant-loop-k : goal.invariant-loop-k
invariant-loop-k l =
    first_broken (flat_map (triangle_tests l.m (vectors_in l.positions)) (drop l.k (corners_in l.indices l.positions)))
    ≡ first_broken (flat_map (triangle_tests l.m (vectors_in l.positions)) (corners_in l.indices l.positions))
