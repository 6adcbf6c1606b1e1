use Rattle.std.proofs.Common.{◌≡◌, map}
use Rattle.std.specs.Prelude.{fold}
use Rattle.std.specs.List.{range_with_len}
use Rattle.scene_read.specs.Shaped.{sphere_at}
use Rattle.device_queries.specs.Extents.{with_shape}
use Rattle.device_queries.proofs.bounds.with_spheres.Given as goal

abbrev pub invariant-loop-k : goal.invariant-loop-k
invariant-loop-k l = l.extent ≡ fold with_shape l.initial.extent (map (sphere_at l.m l.positions l.radii l.common) (range_with_len 0 l.k))
