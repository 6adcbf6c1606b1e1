-- The shapes of a geometry, number by number, from its arrays as they are lent.
use Rattle.std.specs.Prelude.{ℕ, ℤ, ◌/◌, List, [], Option, Some, None, map}
use Rattle.std.specs.List.{range_with_len}
use Rattle.std.specs.Option.{option_map, option_map_or}
use Rattle.byte_view.specs.Elements.{Elements, element}
use Rattle.fx_math.specs.declared.scene.Shape.{Shape}
use Rattle.fx_math.specs.declared.transforms.Mat34.{Mat34}
use Rattle.fx_math.specs.declared.vectors.Vec3.{Vec3}
use Rattle.kind_tables.specs.SceneObjects.{indices_in, scalar_in, vector_in}
use Rattle.kind_tables.specs.Shapes.{next_three, sphere, triangle, vertex}
use Rattle.scene_read.specs.Reading.{all_elements}

-- the vectors of an array, and how many
abbrev pub vectors_in : Option Elements → List Vec3
vectors_in content = map (λ v. vector_in (Some v)) (option_map_or all_elements content [])

abbrev pub count_in : Option Elements → ℕ
count_in content = option_map_or (λ e. e.count) content 0

-- the scalars of an array, if there is one
abbrev pub scalars_of_array : Option Elements → Option (List ℤ)
scalars_of_array content = option_map (λ e. map (λ v. scalar_in (Some v)) (all_elements e)) content

-- the vertex numbers of triangle k, and how many triangles there are
abbrev pub corners_at : Option Elements → ℕ → List ℕ
corners_at (Some indices) k = indices_in (Some (element indices k))
corners_at None k = next_three k

abbrev pub triangle_count : Option Elements → Option Elements → ℕ
triangle_count (Some indices) positions = indices.count
triangle_count None positions = count_in positions / 3

-- the vertex numbers of all triangles
abbrev pub corners_in : Option Elements → Option Elements → List (List ℕ)
corners_in indices positions = map (corners_at indices) (range_with_len 0 (triangle_count indices positions))

-- triangle k, and sphere k
abbrev pub triangle_at : Mat34 → Option Elements → Option Elements → ℕ → Shape
triangle_at m positions indices k = triangle m (vectors_in positions) (corners_at indices k)

abbrev pub sphere_at : Mat34 → Option Elements → Option Elements → ℤ → ℕ → Shape
sphere_at m positions radii common k = sphere m (scalars_of_array radii) common (k, vertex (vectors_in positions) k)
