-- The elements of arrays, one by one, and the shapes that they make.
use Rattle.std.proofs.Common.{◌≡◌, ℕ, ℤ, ◌+◌, ◌<◌, ◌≤◌, List, [], Option, Some, None, codes, length, get_or, map, refl, ap, sym, subst, ◌∙◌, arith, zero-add}
use Rattle.std.specs.List.{enumerate_from, range_with_len}
use Rattle.std.specs.Option.{option_and_then, option_map, option_map_or, unwrap_or}
use Rattle.std.proofs.lemmas.List.{get_or_default, get_or_past, length-map, same_lists}
use Rattle.std.proofs.lemmas.List.FromFn.{get_or-enumerate_from, get_or-map-range_with_len, length-enumerate_from, length-map-range_with_len}
use Rattle.std.proofs.lemmas.Simd.{map-map}
use Rattle.byte_view.specs.Elements.{Elements, element}
use Rattle.dev_types.specs.declared.values.Value.{Value}
use Rattle.fx_math.specs.declared.transforms.Mat34.{Mat34}
use Rattle.kind_tables.specs.SceneObjects.{Block, SceneObject, SceneObjects, array_named, elements, indices_in, object_at, object_in, scalar_in, value_named, vector, vector_in}
use Rattle.kind_tables.specs.Scenes.{nothing_of}
use Rattle.kind_tables.specs.Shapes.{common_radius, corners_by, corners_of, own_radii, positions_of, shapes_by, shapes_of, sphere, triangle}
use Rattle.kind_tables.specs.declared.kinds.Kind.{Kind}
use Rattle.kind_tables.specs.declared.kinds.Kind.TheVariants.{FrameDefault, GeometrySphere, GeometryTriangle}
use Rattle.scene_read.proofs.ShownFacts.{named_read}
use Rattle.scene_read.specs.Reading.{all_elements, array_in, content_of, lent, named_in}
use Rattle.scene_read.specs.Shaped.{corners_at, corners_in, count_in, scalars_of_array, sphere_at, triangle_at, triangle_count, vectors_in}
use Rattle.scene_read.specs.Starts.{visited_object}

-- what a function gives of element i, and behind the last one
pub element_at : {Y : Type 0} (f : Value → Y) (e : Elements) (i : ℕ) (d : Y) → i < e.count → get_or (map f (all_elements e)) i d ≡ f (element e i)
element_at f e i d l = rw (map-map f (element e) (range_with_len 0 e.count)) (get_or-map-range_with_len (λ k. f (element e k)) 0 e.count i i d l (omega arith))

pub count_of_elements : {Y : Type 0} (f : Value → Y) (e : Elements) → length (map f (all_elements e)) ≡ e.count
count_of_elements f e = length-map (all_elements e) f ∙ length-map-range_with_len (element e) 0 e.count

pub no_element : {Y : Type 0} (f : Value → Y) (e : Elements) (i : ℕ) (d : Y) → e.count ≤ i → get_or (map f (all_elements e)) i d ≡ d
no_element f e i d l = get_or_past (map f (all_elements e)) i d (omega (arith, count_of_elements f e))

-- the elements of an array that an object names
array_by : (objects : SceneObjects) (found : Option SceneObject) →
    option_map elements (option_and_then (λ array. array.block) found) ≡ option_map all_elements (option_and_then (λ array. option_map lent array.block) found)
array_by objects None = refl
array_by objects (Some array) = by_block array.block
  where
    by_block : (block : Option Block) → option_map elements block ≡ option_map all_elements (option_map lent block)
    by_block None = refl
    by_block (Some b) = refl

named_array : (objects : SceneObjects) (named : Option ℕ) →
    option_map elements (option_and_then (λ array. array.block) (option_and_then (object_at objects) named)) ≡ option_map all_elements (option_and_then (content_of objects) named)
named_array objects None = refl
named_array objects (Some g) = array_by objects (object_at objects g)

-- the arrays of an object are those that its handle leads to
abbrev pub ReadsArrays : SceneObjects → ℕ → SceneObject → Type 0
ReadsArrays objects h o = (name : List ℕ) → array_named objects o name ≡ option_map all_elements (array_in objects h name)

array_read : (objects : SceneObjects) (h : ℕ) (o : SceneObject) → object_at objects h ≡ Some o → ReadsArrays objects h o
array_read objects h o e name =
    let P : Option SceneObject → Type 0 = λ found.
    array_named objects o name
    ≡ option_map all_elements (option_and_then (content_of objects) (option_and_then object_in (option_and_then (λ o. value_named name o.committed) found))) in
    subst P (sym e) (named_array objects (option_and_then object_in (value_named name o.committed)))

pub array_seen : (objects : SceneObjects) (h : ℕ) → ReadsArrays objects h (visited_object objects h)
array_seen objects h name =
    ap (λ (array : Option SceneObject). option_map elements (option_and_then (λ array. array.block) array)) (named_read objects h name)
    ∙ named_array objects (named_in objects h name)

-- the positions, and how many
positions_by : (content : Option Elements) → map (λ v. vector_in (Some v)) (unwrap_or (option_map all_elements content) []) ≡ vectors_in content
positions_by None = refl
positions_by (Some e) = refl

pub positions_read : (objects : SceneObjects) (h : ℕ) (o : SceneObject) → ReadsArrays objects h o →
    positions_of objects o ≡ vectors_in (array_in objects h (codes "vertex.position"))
positions_read objects h o e =
    ap (λ content. map (λ v. vector_in (Some v)) (unwrap_or content [])) (e (codes "vertex.position"))
    ∙ positions_by (array_in objects h (codes "vertex.position"))

pub count_read : (content : Option Elements) → length (vectors_in content) ≡ count_in content
count_read None = refl
count_read (Some e) = count_of_elements (λ v. vector_in (Some v)) e

-- the vertex numbers, triangle by triangle
corners_read_by : (indices : Option Elements) (positions : Option Elements) →
    corners_by (option_map all_elements indices) (count_in positions) ≡ map (corners_at indices) (range_with_len 0 (triangle_count indices positions))
corners_read_by None positions = refl
corners_read_by (Some e) positions = map-map (λ v. indices_in (Some v)) (element e) (range_with_len 0 e.count)

pub corners_read : (objects : SceneObjects) (h : ℕ) (o : SceneObject) → ReadsArrays objects h o →
    corners_of objects o ≡
    map (corners_at (array_in objects h (codes "primitive.index")))
    (range_with_len 0 (triangle_count (array_in objects h (codes "primitive.index")) (array_in objects h (codes "vertex.position"))))
corners_read objects h o e =
    ap (λ indices. corners_by indices (length (positions_of objects o))) (e (codes "primitive.index"))
    ∙ ap (corners_by (option_map all_elements (array_in objects h (codes "primitive.index")))) (ap length (positions_read objects h o e) ∙ count_read (array_in objects h (codes "vertex.position")))
    ∙ corners_read_by (array_in objects h (codes "primitive.index")) (array_in objects h (codes "vertex.position"))

-- a list by its places
numbered_from : {X : Type 0} (n : ℕ) (xs : List X) (d : X) → enumerate_from n xs ≡ map (λ k. (n + k, get_or xs k d)) (range_with_len 0 (length xs))
numbered_from n xs d =
    same_lists (enumerate_from n xs) (map (λ k. (n + k, get_or xs k d)) (range_with_len 0 (length xs)))
    (length-enumerate_from n xs ∙ sym (length-map-range_with_len (λ k. (n + k, get_or xs k d)) 0 (length xs)))
    (λ k e l. at_place k e (omega (arith, length-enumerate_from n xs)))
  where
    at_place : (k : ℕ) (e : ℕ × _) → k < length xs → get_or (enumerate_from n xs) k e ≡ get_or (map (λ k. (n + k, get_or xs k d)) (range_with_len 0 (length xs))) k e
    at_place k e l =
        get_or-enumerate_from n xs k e l ∙ ap (λ x. (n + k, x)) (get_or_default xs k e.1 d l)
        ∙ sym (get_or-map-range_with_len (λ k. (n + k, get_or xs k d)) 0 (length xs) k k e l (omega arith))

pub numbered : {X : Type 0} (xs : List X) (d : X) → enumerate_from 0 xs ≡ map (λ k. (k, get_or xs k d)) (range_with_len 0 (length xs))
numbered xs d = rw (← zero_first) (numbered_from 0 xs d)
  where
    zero_first : map {B = ℕ × _} (λ k. (0 + k, get_or xs k d)) (range_with_len 0 (length xs)) ≡ map {B = ℕ × _} (λ k. (k, get_or xs k d)) (range_with_len 0 (length xs))
    zero_first = simp zero-add

-- the shapes of a geometry, as they are read
triangles_by : (objects : SceneObjects) (h : ℕ) (m : Mat34) (found : Option SceneObject) → object_at objects h ≡ found → option_map (λ o. o.kind) found ≡ Some GeometryTriangle →
    option_map_or (λ o. shapes_of objects o m) found []
    ≡ map (triangle_at m (array_in objects h (codes "vertex.position")) (array_in objects h (codes "primitive.index")))
    (range_with_len 0 (triangle_count (array_in objects h (codes "primitive.index")) (array_in objects h (codes "vertex.position"))))
unfolding shapes_of
triangles_by objects h m None e k = cc
triangles_by objects h m (Some o) e k =
    let kind : o.kind ≡ GeometryTriangle = cc in
    ap (λ kind. shapes_by kind objects o m) kind
    ∙ ap (λ positions. map (triangle m positions) (corners_of objects o)) (positions_read objects h o (array_read objects h o e))
    ∙ ap (map (triangle m (vectors_in (array_in objects h (codes "vertex.position"))))) (corners_read objects h o (array_read objects h o e))
    ∙ map-map (triangle m (vectors_in (array_in objects h (codes "vertex.position")))) (corners_at (array_in objects h (codes "primitive.index")))
    (range_with_len 0 (triangle_count (array_in objects h (codes "primitive.index")) (array_in objects h (codes "vertex.position"))))

pub triangles_read : (objects : SceneObjects) (h : ℕ) (m : Mat34) → option_map (λ o. o.kind) (object_at objects h) ≡ Some GeometryTriangle →
    option_map_or (λ o. shapes_of objects o m) (object_at objects h) []
    ≡ map (triangle_at m (array_in objects h (codes "vertex.position")) (array_in objects h (codes "primitive.index")))
    (range_with_len 0 (triangle_count (array_in objects h (codes "primitive.index")) (array_in objects h (codes "vertex.position"))))
triangles_read objects h m k = triangles_by objects h m (object_at objects h) refl k

spheres_of : (m : Mat34) (positions radii : Option Elements) (common : ℤ) →
    map (sphere m (scalars_of_array radii) common) (enumerate_from 0 (vectors_in positions)) ≡ map (sphere_at m positions radii common) (range_with_len 0 (count_in positions))
spheres_of m positions radii common =
    ap (map (sphere m (scalars_of_array radii) common)) (numbered (vectors_in positions) (vector []))
    ∙ map-map (sphere m (scalars_of_array radii) common) (λ k. (k, get_or (vectors_in positions) k (vector []))) (range_with_len 0 (length (vectors_in positions)))
    ∙ ap (λ n. map (sphere_at m positions radii common) (range_with_len 0 n)) (count_read positions)

radii_by : (radii : Option Elements) → option_map (map (λ v. scalar_in (Some v))) (option_map all_elements radii) ≡ scalars_of_array radii
radii_by None = refl
radii_by (Some e) = refl

pub radii_read : (objects : SceneObjects) (h : ℕ) (o : SceneObject) → ReadsArrays objects h o → own_radii objects o ≡ scalars_of_array (array_in objects h (codes "vertex.radius"))
radii_read objects h o e =
    ap (option_map (map (λ v. scalar_in (Some v)))) (e (codes "vertex.radius")) ∙ radii_by (array_in objects h (codes "vertex.radius"))

spheres_by : (objects : SceneObjects) (h : ℕ) (m : Mat34) (otherwise : SceneObject) (found : Option SceneObject) → object_at objects h ≡ found → option_map (λ o. o.kind) found ≡ Some GeometrySphere →
    option_map_or (λ o. shapes_of objects o m) found []
    ≡ map (sphere_at m (array_in objects h (codes "vertex.position")) (array_in objects h (codes "vertex.radius")) (common_radius (unwrap_or found otherwise)))
    (range_with_len 0 (count_in (array_in objects h (codes "vertex.position"))))
unfolding shapes_of
spheres_by objects h m otherwise None e k = cc
spheres_by objects h m otherwise (Some o) e k =
    let kind : o.kind ≡ GeometrySphere = cc in
    ap (λ kind. shapes_by kind objects o m) kind
    ∙ ap (λ positions. map (sphere m (own_radii objects o) (common_radius o)) (enumerate_from 0 positions)) (positions_read objects h o (array_read objects h o e))
    ∙ ap (λ radii. map (sphere m radii (common_radius o)) (enumerate_from 0 (vectors_in (array_in objects h (codes "vertex.position"))))) (radii_read objects h o (array_read objects h o e))
    ∙ spheres_of m (array_in objects h (codes "vertex.position")) (array_in objects h (codes "vertex.radius")) (common_radius o)

pub spheres_read : (objects : SceneObjects) (h : ℕ) (m : Mat34) (otherwise : SceneObject) → option_map (λ o. o.kind) (object_at objects h) ≡ Some GeometrySphere →
    option_map_or (λ o. shapes_of objects o m) (object_at objects h) []
    ≡ map (sphere_at m (array_in objects h (codes "vertex.position")) (array_in objects h (codes "vertex.radius")) (common_radius (unwrap_or (object_at objects h) otherwise)))
    (range_with_len 0 (count_in (array_in objects h (codes "vertex.position"))))
spheres_read objects h m otherwise k = spheres_by objects h m otherwise (object_at objects h) refl k

-- no shapes of anything else
other_by : (objects : SceneObjects) (m : Mat34) (kind : Kind) (o : SceneObject) → (kind ≡ GeometryTriangle → ⊥) → (kind ≡ GeometrySphere → ⊥) → shapes_by kind objects o m ≡ []
other_by objects m GeometryTriangle o t s = absurd (t refl)
other_by objects m GeometrySphere o t s = absurd (s refl)
other_by objects m _ o t s = refl

other_found : (objects : SceneObjects) (m : Mat34) (found : Option SceneObject) →
    (option_map (λ o. o.kind) found ≡ Some GeometryTriangle → ⊥) → (option_map (λ o. o.kind) found ≡ Some GeometrySphere → ⊥) →
    option_map_or (λ o. shapes_of objects o m) found [] ≡ []
unfolding shapes_of
other_found objects m None t s = refl
other_found objects m (Some o) t s = other_by objects m o.kind o (λ e. t (ap Some e)) (λ e. s (ap Some e))

pub other_read : (objects : SceneObjects) (h : ℕ) (m : Mat34) →
    (option_map (λ o. o.kind) (object_at objects h) ≡ Some GeometryTriangle → ⊥) → (option_map (λ o. o.kind) (object_at objects h) ≡ Some GeometrySphere → ⊥) →
    option_map_or (λ o. shapes_of objects o m) (object_at objects h) [] ≡ []
other_read objects h m t s = other_found objects m (object_at objects h) t s

-- how many they are
pub triangles_counted : (objects : SceneObjects) (h : ℕ) (m : Mat34) → option_map (λ o. o.kind) (object_at objects h) ≡ Some GeometryTriangle →
    length (option_map_or (λ o. shapes_of objects o m) (object_at objects h) []) ≡ triangle_count (array_in objects h (codes "primitive.index")) (array_in objects h (codes "vertex.position"))
triangles_counted objects h m k =
    ap length (triangles_read objects h m k)
    ∙ length-map-range_with_len (triangle_at m (array_in objects h (codes "vertex.position")) (array_in objects h (codes "primitive.index"))) 0
    (triangle_count (array_in objects h (codes "primitive.index")) (array_in objects h (codes "vertex.position")))

pub spheres_counted : (objects : SceneObjects) (h : ℕ) (m : Mat34) → option_map (λ o. o.kind) (object_at objects h) ≡ Some GeometrySphere →
    length (option_map_or (λ o. shapes_of objects o m) (object_at objects h) []) ≡ count_in (array_in objects h (codes "vertex.position"))
spheres_counted objects h m k =
    ap length (spheres_read objects h m (nothing_of FrameDefault) k)
    ∙ length-map-range_with_len
    (sphere_at m (array_in objects h (codes "vertex.position")) (array_in objects h (codes "vertex.radius")) (common_radius (unwrap_or (object_at objects h) (nothing_of FrameDefault)))) 0
    (count_in (array_in objects h (codes "vertex.position")))

pub others_counted : (objects : SceneObjects) (h : ℕ) (m : Mat34) →
    (option_map (λ o. o.kind) (object_at objects h) ≡ Some GeometryTriangle → ⊥) → (option_map (λ o. o.kind) (object_at objects h) ≡ Some GeometrySphere → ⊥) →
    length (option_map_or (λ o. shapes_of objects o m) (object_at objects h) []) ≡ 0
others_counted objects h m t s = ap length (other_read objects h m t s)

-- the vertex numbers of triangle k among those of all
pub corners_counted : (indices positions : Option Elements) → length (corners_in indices positions) ≡ triangle_count indices positions
corners_counted indices positions = length-map-range_with_len (corners_at indices) 0 (triangle_count indices positions)

pub corners_get : (indices positions : Option Elements) (k : ℕ) → k < triangle_count indices positions → get_or (corners_in indices positions) k [] ≡ corners_at indices k
corners_get indices positions k l = get_or-map-range_with_len (corners_at indices) 0 (triangle_count indices positions) k k [] l (omega arith)
