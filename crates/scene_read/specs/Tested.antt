-- Tests of what is visited, as they are made one by one.
use Rattle.std.specs.Prelude.{ℕ, ℤ, Bool, false, ◌&&◌, nat_le, List, Option, Some, None, codes, length, map, take}
use Rattle.std.specs.Borrow.{Bor}
use Rattle.std.specs.List.{list_all}
use Rattle.std.specs.Option.{is_none, option_map_or}
use Rattle.dev_types.specs.Bounded.{is_name}
use Rattle.fx_math.specs.declared.transforms.Mat34.{Mat34}
use Rattle.kind_tables.specs.Ranges.{is_radius, tests_of}
use Rattle.kind_tables.specs.Rows.{row_of}
use Rattle.kind_tables.specs.SceneObjects.{SceneObject, matrix_in, value_named}
use Rattle.kind_tables.specs.declared.kinds.Kind.{Kind}
use Rattle.kind_tables.specs.declared.kinds.Kind.TheVariants.{CameraOrthographic}

-- a parameter's name with its test
abbrev pub test_of : Bor (List ℕ) × Bool → List ℕ × Bool
test_of test = (test.0.now, test.1)

abbrev pub tests_in : List (Bor (List ℕ) × Bool) → List (List ℕ × Bool)
tests_in tests = map test_of tests

-- all of them are names that parameters may have
abbrev pub have_names : List (List ℕ × Bool) → Bool
have_names tests = list_all (λ test. is_name test.0) tests

-- what every camera is asked: an orthographic one, but for its height
abbrev pub camera_tests : SceneObject → List (List ℕ × Bool)
camera_tests o = take 4 (tests_of CameraOrthographic (matrix_in None) o)

-- there are so many radii, and each of these is in range
abbrev pub are_radii : Mat34 → List ℤ → ℕ → Bool
are_radii m radii count = nat_le count (length radii) && list_all (is_radius m) (take count radii)

-- what is asked of the radii of so many spheres: of their own where they have such, else of the one of all
abbrev pub radius_test : Mat34 → Option (List ℤ) → ℤ → ℕ → List ℕ × Bool
radius_test m (Some radii) common count = (codes "vertex.radius", are_radii m radii count)
radius_test m None common count = (codes "radius", is_radius m common)

-- an object of a kind needs the parameter with this name, and lacks it
abbrev pub lacks : Kind → SceneObject → List ℕ → Bool
lacks kind o name = option_map_or (λ row. row.required && is_none (value_named name o.committed)) (row_of kind name) false
