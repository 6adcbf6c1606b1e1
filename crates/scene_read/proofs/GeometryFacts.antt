-- What is asked of a visited geometry, from its arrays as they are lent.
use Rattle.std.proofs.Common.{◌≡◌, ℕ, ℤ, ◌+◌, ◌<◌, Bool, List, [], ◌∷◌, Option, Some, None, codes, length, nat_le, drop, take, refl, ap, sym, ◌∙◌, arith}
use Rattle.std.specs.List.{flat_map, list_all}
use Rattle.std.specs.Option.{option_or}
use Rattle.byte_view.specs.Elements.{Elements}
use Rattle.fx_math.specs.Mat34.{placed}
use Rattle.fx_math.specs.declared.transforms.Mat34.{Mat34}
use Rattle.fx_math.specs.declared.vectors.Vec3.{Vec3}
use Rattle.kind_tables.specs.Ranges.{first_broken, geometry_tests, is_point, is_radius, radius_tests, triangle_tests}
use Rattle.kind_tables.specs.SceneObjects.{SceneObjects}
use Rattle.kind_tables.specs.Shapes.{common_radius, corners_of, own_radii}
use Rattle.kind_tables.specs.declared.kinds.Kind.TheVariants.{GeometrySphere, GeometryTriangle}
use Rattle.scene_read.proofs.ElementFacts.{array_seen, corners_counted, corners_get, corners_read, count_read, positions_read, radii_read}
use Rattle.scene_read.proofs.TestFacts.{first_broken_of_from, joined_tests}
use Rattle.scene_read.specs.Reading.{array_in}
use Rattle.scene_read.specs.Shaped.{corners_at, corners_in, count_in, scalars_of_array, triangle_count, vectors_in}
use Rattle.scene_read.specs.Starts.{visited_object}
use Rattle.scene_read.specs.Tested.{radius_test}

-- the triangles from a place on
pub triangles_from : (m : Mat34) (positions indices : Option Elements) (k : ℕ) (broken : Option (List ℕ)) → k < triangle_count indices positions →
    broken ≡ first_broken (triangle_tests m (vectors_in positions) (corners_at indices k)) →
    first_broken (flat_map (triangle_tests m (vectors_in positions)) (drop k (corners_in indices positions)))
    ≡ option_or broken (first_broken (flat_map (triangle_tests m (vectors_in positions)) (drop (k + 1) (corners_in indices positions))))
triangles_from m positions indices k broken l e =
    let within : k < length (corners_in indices positions) = omega (arith, corners_counted indices positions) in
    first_broken_of_from (triangle_tests m (vectors_in positions)) (corners_in indices positions) k [] broken within
    (e ∙ ap (λ corners. first_broken (triangle_tests m (vectors_in positions) corners)) (sym (corners_get indices positions k l)))

-- all triangles of a visited geometry
pub triangle_tests_seen : (objects : SceneObjects) (h : ℕ) (m : Mat34) →
    geometry_tests GeometryTriangle objects (visited_object objects h) m
    ≡ flat_map (triangle_tests m (vectors_in (array_in objects h (codes "vertex.position"))))
    (corners_in (array_in objects h (codes "primitive.index")) (array_in objects h (codes "vertex.position")))
triangle_tests_seen objects h m =
    ap (λ positions. flat_map (triangle_tests m positions) (corners_of objects (visited_object objects h))) (positions_read objects h (visited_object objects h) (array_seen objects h))
    ∙ ap (flat_map (triangle_tests m (vectors_in (array_in objects h (codes "vertex.position"))))) (corners_read objects h (visited_object objects h) (array_seen objects h))

-- the radii of spheres are one test
one_test : (m : Mat34) (first : List ℕ × Bool) (radii : Option (List ℤ)) (common : ℤ) (count : ℕ) →
    first_broken (first ∷ radius_tests m radii common count) ≡ first_broken (first ∷ radius_test m radii common count ∷ [])
one_test m first None common count = refl
one_test m first (Some radii) common count = joined_tests first (codes "vertex.radius") (nat_le count (length radii)) (list_all (is_radius m) (take count radii))

pub sphere_tests_seen : (objects : SceneObjects) (h : ℕ) (m : Mat34) →
    first_broken (geometry_tests GeometrySphere objects (visited_object objects h) m)
    ≡ first_broken ((codes "vertex.position", list_all (λ p. is_point (placed m p)) (vectors_in (array_in objects h (codes "vertex.position"))))
    ∷ radius_test m (scalars_of_array (array_in objects h (codes "vertex.radius"))) (common_radius (visited_object objects h)) (count_in (array_in objects h (codes "vertex.position"))) ∷ [])
sphere_tests_seen objects h m =
    let centres : List Vec3 → List ℕ × Bool = λ positions. (codes "vertex.position", list_all (λ p. is_point (placed m p)) positions) in
    let positions = vectors_in (array_in objects h (codes "vertex.position")) in
    let radii = scalars_of_array (array_in objects h (codes "vertex.radius")) in
    let common = common_radius (visited_object objects h) in
    ap (λ (ps : List Vec3). first_broken (centres ps ∷ radius_tests m (own_radii objects (visited_object objects h)) common (length ps))) (positions_read objects h (visited_object objects h) (array_seen objects h))
    ∙ ap (λ rs. first_broken (centres positions ∷ radius_tests m rs common (length positions))) (radii_read objects h (visited_object objects h) (array_seen objects h))
    ∙ ap (λ n. first_broken (centres positions ∷ radius_tests m radii common n)) (count_read (array_in objects h (codes "vertex.position")))
    ∙ one_test m (centres positions) radii common (count_in (array_in objects h (codes "vertex.position")))

-- the tests of spheres, as they are made
pub spheres_tested : (objects : SceneObjects) (h : ℕ) (m : Mat34) (positions : Option Elements) (centres : Bool) (count : ℕ) (radii : List ℕ × Bool) →
    positions ≡ array_in objects h (codes "vertex.position") → centres ≡ list_all (λ p. is_point (placed m p)) (vectors_in positions) → count ≡ count_in positions →
    radii ≡ radius_test m (scalars_of_array (array_in objects h (codes "vertex.radius"))) (common_radius (visited_object objects h)) count →
    first_broken ((codes "vertex.position", centres) ∷ radii ∷ []) ≡ first_broken (geometry_tests GeometrySphere objects (visited_object objects h) m)
spheres_tested objects h m positions centres count radii p c n r =
    ap (λ test. first_broken ((codes "vertex.position", centres) ∷ test ∷ [])) r
    ∙ ap (λ n. first_broken ((codes "vertex.position", centres) ∷ radius_test m (scalars_of_array (array_in objects h (codes "vertex.radius"))) (common_radius (visited_object objects h)) n ∷ []))
    (n ∙ ap count_in p)
    ∙ ap (λ b. first_broken ((codes "vertex.position", b) ∷ radius_test m (scalars_of_array (array_in objects h (codes "vertex.radius"))) (common_radius (visited_object objects h)) (count_in (array_in objects h (codes "vertex.position"))) ∷ []))
    (c ∙ ap (λ ps. list_all (λ p. is_point (placed m p)) (vectors_in ps)) p)
    ∙ sym (sphere_tests_seen objects h m)
