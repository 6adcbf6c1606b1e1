-- The triangles and spheres of a geometry (ANARI 1.0 Specification, Geometry: triangle, sphere).
use Rattle.std.specs.Prelude.{ℕ, ℤ, pos, ◌+◌, ◌*◌, ◌/◌, List, [], ◌∷◌, Option, Some, None, codes, length, map, slice_index_or}
use Rattle.std.specs.List.{enumerate_from, range_with_len}
use Rattle.std.specs.Option.{option_map, unwrap_or}
use Rattle.dev_types.specs.declared.values.Value.{Value}
use Rattle.fx_math.specs.Mat34.{placed, scaled_radius}
use Rattle.fx_math.specs.declared.scene.Shape.{Shape}
use Rattle.fx_math.specs.declared.scene.Shape.TheVariants.{Triangle, Sphere}
use Rattle.fx_math.specs.declared.transforms.Mat34.{Mat34}
use Rattle.fx_math.specs.declared.vectors.Vec3.{Vec3}
use Rattle.kind_tables.specs.SceneObjects.{SceneObject, SceneObjects, array_named, indices_in, scalar_in, scalar_of, vector, vector_in}
use Rattle.kind_tables.specs.declared.kinds.Kind.{Kind}
use Rattle.kind_tables.specs.declared.kinds.Kind.TheVariants.{GeometrySphere, GeometryTriangle}

-- the positions that a geometry was given
abbrev pub positions_of : SceneObjects → SceneObject → List Vec3
positions_of objects geometry = map (λ v. vector_in (Some v)) (unwrap_or (array_named objects geometry (codes "vertex.position")) [])

-- vertex i
abbrev pub vertex : List Vec3 → ℕ → Vec3
vertex positions i = slice_index_or positions i (vector [])

-- the vertices of triangle k where no index tells them
abbrev pub next_three : ℕ → List ℕ
next_three k = (3 * k) ∷ (3 * k + 1) ∷ (3 * k + 2) ∷ []

-- the vertex numbers of each triangle: its index, or three vertices after three, and those that are left over are not used
abbrev pub corners_by : Option (List Value) → ℕ → List (List ℕ)
corners_by (Some indices) count = map (λ v. indices_in (Some v)) indices
corners_by None count = map next_three (range_with_len 0 (count / 3))

abbrev pub corners_of : SceneObjects → SceneObject → List (List ℕ)
corners_of objects geometry = corners_by (array_named objects geometry (codes "primitive.index")) (length (positions_of objects geometry))

-- vertex number i of a triangle, in world space
abbrev pub corner : Mat34 → List Vec3 → List ℕ → ℕ → Vec3
corner m positions corners i = placed m (vertex positions (slice_index_or corners i 0))

-- the triangle with these vertices
abbrev pub triangle : Mat34 → List Vec3 → List ℕ → Shape
triangle m positions corners = Triangle (corner m positions corners 0) (corner m positions corners 1) (corner m positions corners 2)

-- the radii that spheres were given of their own
abbrev pub own_radii : SceneObjects → SceneObject → Option (List ℤ)
own_radii objects geometry = option_map (map (λ v. scalar_in (Some v))) (array_named objects geometry (codes "vertex.radius"))

-- the radius of all spheres that have none of their own
abbrev pub common_radius : SceneObject → ℤ
common_radius geometry = scalar_of geometry (codes "radius")

-- the radius of sphere k: its own, or the one of all
abbrev pub radius_by : Option (List ℤ) → ℤ → ℕ → ℤ
radius_by (Some radii) common k = slice_index_or radii k (pos 0)
radius_by None common k = common

-- the sphere with this number and this centre; under a transform it stays a sphere
abbrev pub sphere : Mat34 → Option (List ℤ) → ℤ → ℕ × Vec3 → Shape
sphere m radii common centre = Sphere (placed m centre.1) (scaled_radius m (radius_by radii common centre.0))

-- the shapes of a geometry of a kind, in world space: a triangle for each three corners, a sphere for each position
abbrev pub shapes_by : Kind → SceneObjects → SceneObject → Mat34 → List Shape
shapes_by GeometryTriangle objects geometry m = map (triangle m (positions_of objects geometry)) (corners_of objects geometry)
shapes_by GeometrySphere objects geometry m =
    map (sphere m (own_radii objects geometry) (common_radius geometry)) (enumerate_from 0 (positions_of objects geometry))
shapes_by _ objects geometry m = []

unfoldable pub shapes_of : SceneObjects → SceneObject → Mat34 → List Shape
shapes_of objects geometry m = shapes_by geometry.kind objects geometry m
