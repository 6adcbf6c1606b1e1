use Rattle.std.proofs.Common.{◌≡◌, map}
use Rattle.std.specs.List.{range_with_len}
use Rattle.scene_read.specs.Shaped.{sphere_at}
use Rattle.scene_read.proofs.geometries.spheres.Given as goal

abbrev pub invariant-loop-k : goal.invariant-loop-k
invariant-loop-k l = l.shapes.items ≡ map (sphere_at l.m l.positions l.radii l.common) (range_with_len 0 l.k)
