-- What is captured of a surface that a walk visits, and the primitives that it shows.
use Rattle.std.specs.Prelude.{ℕ, ℤ, List, [], Option, Some, None, map}
use Rattle.std.specs.List.{range_with_len}
use Rattle.fx_math.specs.declared.scene.Primitive.{Primitive}
use Rattle.fx_math.specs.declared.scene.Shape.{Shape}
use Rattle.fx_math.specs.declared.transforms.Mat34.{Mat34}
use Rattle.kind_tables.specs.Walks.{Spot}
use Rattle.scene_read.specs.Shaped.{count_in, sphere_at, triangle_at, triangle_count}
use Rattle.world_snapshot.specs.declared.geometries.Geometry.{Geometry}
use Rattle.world_snapshot.specs.declared.geometries.Geometry.TheVariants.{Triangles, Spheres}

-- shape number k of a geometry under a transform, and how many it has
abbrev pub shape_at : Mat34 → Geometry → ℕ → Shape
shape_at m (Triangles positions indices) k = triangle_at m positions indices k
shape_at m (Spheres positions radii radius) k = sphere_at m positions radii radius k

abbrev pub shape_count : Geometry → ℕ
shape_count (Triangles positions indices) = triangle_count indices positions
shape_count (Spheres positions radii radius) = count_in positions

-- the shapes of a geometry, if there is one
abbrev pub shapes_in : Mat34 → Option Geometry → List Shape
shapes_in m None = []
shapes_in m (Some geometry) = map (shape_at m geometry) (range_with_len 0 (shape_count geometry))

-- a surface: where it stands, what its shapes have in common, and its geometry
pub record Surface : Type 0 where
  pub spot : Spot
  pub color : List ℤ
  pub opacity : ℤ
  pub object_id : ℕ
  pub geometry : Geometry

-- primitive number k of a surface, and all of them
abbrev pub primitive_of : Surface → ℕ → Primitive
primitive_of s k = record {
  place = record { inst = s.spot.inst; surf = s.spot.surf; prim = k };
  shape = shape_at s.spot.transform s.geometry k;
  color = s.color;
  opacity = s.opacity;
  object_id = s.object_id;
  instance_id = s.spot.instance_id;
}

abbrev pub primitives_of : Surface → List Primitive
primitives_of s = map (primitive_of s) (range_with_len 0 (shape_count s.geometry))
