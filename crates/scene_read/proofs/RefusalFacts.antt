-- Refusals of a walk, visit by visit: what is wrong with the visits from a place on, by the first of them and by the rest.
use Rattle.std.proofs.Common.{◌≡◌, ℕ, ◌+◌, ◌<◌, ◌≤◌, Bool, true, false, ◌&&◌, cond, if◌then◌else◌, List, [], ◌∷◌, Option, Some, None, length, get_or, drop, map, refl, ap, sym, ◌∙◌, arith, length-append}
use Rattle.std.specs.List.{filter_map, find, flat_map, cons_option}
use Rattle.std.specs.Option.{is_none, is_some, option_map, option_map_or, option_or, unwrap_or}
use Rattle.std.proofs.lemmas.Bool.{le-ltb, lt-ltb}
use Rattle.std.proofs.lemmas.List.{drop_more}
use Rattle.dev_types.specs.declared.refusals.Refused.{Refused}
use Rattle.dev_types.specs.declared.refusals.Refused.TheVariants.{ArrayMapped, Incomplete, OutOfRange, TooMany}
use Rattle.dev_types.specs.declared.values.Value.{Value}
use Rattle.fx_math.specs.declared.scene.LightRow.{LightRow}
use Rattle.fx_math.specs.declared.transforms.Mat34.{Mat34}
use Rattle.kind_tables.specs.Ranges.{broken_parameter, first_broken, geometry_tests, tests_of}
use Rattle.kind_tables.specs.Rows.{parameters_of, row_of, rows_of}
use Rattle.kind_tables.specs.SceneObjects.{SceneObject, SceneObjects, object_at, value_named}
use Rattle.kind_tables.specs.Scenes.{light_at, lights_of, nothing_of, primitives_at, primitives_of}
use Rattle.kind_tables.specs.WalkRefusals.{fault_of, first_answer, first_incomplete, first_mapped, first_out_of_range, is_surface, missing_parameter, surface_count, too_many, walk_refusal}
use Rattle.kind_tables.specs.Walks.{Spot, Visit}
use Rattle.kind_tables.specs.declared.kinds.Kind.{Kind}
use Rattle.kind_tables.specs.declared.kinds.Kind.TheVariants.{CameraOrthographic, CameraPerspective, FrameDefault, GeometrySphere, GeometryTriangle, GroupDefault, InstanceTransform, LightDirectional, LightPoint, MaterialMatte, RendererDefault, SurfaceDefault, WorldDefault, Array}
use Rattle.kind_tables.specs.declared.rows.Row.{Row}
use Rattle.scene_read.proofs.TestFacts.{first_broken-append, first_or, next_or}
use Rattle.scene_read.specs.Counted.{count_at, count_of}
use Rattle.scene_read.specs.Starts.{all_seen, seen, visited_object}
use Rattle.scene_read.specs.Tested.{lacks}
use Rattle.scene_read.specs.declared.refusals.Limit.{Limit}
use Rattle.scene_read.specs.declared.refusals.Limit.TheVariants.{Surfaces, Lights, Primitives}

-- the visits from a place on, first and rest
all_seen_from : (objects : SceneObjects) (visits : List (Spot × ℕ)) (i : ℕ) (v : Spot × ℕ) → i < length visits → v ≡ get_or visits i v →
    all_seen objects (drop i visits) ≡ seen objects v ∷ all_seen objects (drop (i + 1) visits)
all_seen_from objects visits i v l e =
    ap (all_seen objects) (drop_more visits i v l) ∙ ap (λ x. seen objects x ∷ all_seen objects (drop (i + 1) visits)) (sym e)

-- whether an object is mapped, as it is asked
mapped_by : (found : Option SceneObject) → option_map_or (λ o. o.mapped) found false ≡ (unwrap_or found (nothing_of FrameDefault)).mapped
mapped_by None = refl
mapped_by (Some o) = refl

-- the first visit is mapped, or the first mapped one is among the rest
first_mapped_by : (v : Visit) (rest : List Visit) (mapped : Bool) → v.object.mapped ≡ mapped →
    first_mapped (v ∷ rest) ≡ cond mapped (Some (ArrayMapped v.handle)) (first_mapped rest)
unfolding first_mapped
first_mapped_by v rest true e = rw e refl
first_mapped_by v rest false e = rw e refl

pub first_mapped_from : (objects : SceneObjects) (visits : List (Spot × ℕ)) (i : ℕ) (v : Spot × ℕ) (mapped : Bool) → i < length visits → v ≡ get_or visits i v →
    mapped ≡ option_map_or (λ o. o.mapped) (object_at objects v.1) false →
    first_mapped (all_seen objects (drop i visits)) ≡ cond mapped (Some (ArrayMapped v.1)) (first_mapped (all_seen objects (drop (i + 1) visits)))
first_mapped_from objects visits i v mapped l e m =
    ap first_mapped (all_seen_from objects visits i v l e)
    ∙ first_mapped_by (seen objects v) (all_seen objects (drop (i + 1) visits)) mapped (sym (m ∙ mapped_by (object_at objects v.1)))

-- the first answer of the visits from a place on
first_answer_from : {Y : Type 0} (f : Visit → Option Y) (objects : SceneObjects) (visits : List (Spot × ℕ)) (i : ℕ) (v : Spot × ℕ) → i < length visits → v ≡ get_or visits i v →
    first_answer f (all_seen objects (drop i visits)) ≡ option_or (f (seen objects v)) (first_answer f (all_seen objects (drop (i + 1) visits)))
first_answer_from f objects visits i v l e = ap (first_answer f) (all_seen_from objects visits i v l e)

pub first_incomplete_from : (objects : SceneObjects) (visits : List (Spot × ℕ)) (i : ℕ) (v : Spot × ℕ) (missing : Option (List ℕ)) → i < length visits → v ≡ get_or visits i v →
    missing ≡ missing_parameter (visited_object objects v.1) →
    first_incomplete (all_seen objects (drop i visits)) ≡ option_or (option_map (Incomplete v.1) missing) (first_incomplete (all_seen objects (drop (i + 1) visits)))
unfolding first_incomplete
first_incomplete_from objects visits i v missing l e m =
    rw m (first_answer_from (λ v. option_map (Incomplete v.handle) (missing_parameter v.object)) objects visits i v l e)

pub first_out_of_range_from : (objects : SceneObjects) (visits : List (Spot × ℕ)) (i : ℕ) (v : Spot × ℕ) (broken : Option (List ℕ)) → i < length visits → v ≡ get_or visits i v →
    broken ≡ broken_parameter objects (seen objects v) →
    first_out_of_range objects (all_seen objects (drop i visits)) ≡ option_or (option_map (OutOfRange v.1) broken) (first_out_of_range objects (all_seen objects (drop (i + 1) visits)))
unfolding first_out_of_range
first_out_of_range_from objects visits i v broken l e b =
    rw b (first_answer_from (λ v. option_map (OutOfRange v.handle) (broken_parameter objects v)) objects visits i v l e)

-- how much one visit adds to the rest
more_surfaces : (v : Visit) (rest : List Visit) (b : Bool) → is_surface v.object.kind ≡ b → surface_count (v ∷ rest) ≡ (if is_surface v.object.kind then 1 else 0) + surface_count rest
more_surfaces v rest true e = rw e (omega arith)
more_surfaces v rest false e = rw e (omega arith)

more_lights : (found : Option LightRow) (lights : List LightRow) → length (cons_option found lights) ≡ option_map_or (λ light. 1) found 0 + length lights
more_lights None lights = omega arith
more_lights (Some light) lights = omega arith

count_of_more : (limit : Limit) (objects : SceneObjects) (v : Visit) (rest : List Visit) → count_of limit objects (v ∷ rest) ≡ count_at limit objects v + count_of limit objects rest
unfolding lights_of primitives_of
count_of_more Surfaces objects v rest = more_surfaces v rest (is_surface v.object.kind) refl
count_of_more Lights objects v rest = more_lights (light_at v) (filter_map light_at rest)
count_of_more Primitives objects v rest = length-append (primitives_at objects v) (flat_map (primitives_at objects) rest)

-- how much the visits from a place on come to
pub count_from : (limit : Limit) (objects : SceneObjects) (visits : List (Spot × ℕ)) (i : ℕ) (v : Spot × ℕ) → i < length visits → v ≡ get_or visits i v →
    count_of limit objects (all_seen objects (drop i visits)) ≡ count_at limit objects (seen objects v) + count_of limit objects (all_seen objects (drop (i + 1) visits))
count_from limit objects visits i v l e =
    ap (count_of limit objects) (all_seen_from objects visits i v l e) ∙ count_of_more limit objects (seen objects v) (all_seen objects (drop (i + 1) visits))

pub count_of_none : (limit : Limit) (objects : SceneObjects) → count_of limit objects [] ≡ 0
unfolding lights_of primitives_of
count_of_none Surfaces objects = refl
count_of_none Lights objects = refl
count_of_none Primitives objects = refl

-- a limit that is passed, and one that is not
pub over_limit : (limit count : ℕ) → limit < count → too_many limit count ≡ Some (TooMany limit)
over_limit limit count l = rw (lt-ltb limit count l) refl

pub within_limit : (limit count : ℕ) → count ≤ limit → too_many limit count ≡ None
within_limit limit count l = rw (le-ltb limit count l) refl

-- what is found among mapped items
found_mapped : {X Y : Type 0} (p : Y → Bool) (f : X → Y) (xs : List X) → find p (map f xs) ≡ option_map f (find (λ x. p (f x)) xs)
found_mapped p f [] = refl
found_mapped p f (x ∷ xs) = by_test (p (f x)) _ _ (found_mapped p f xs)
  where
    by_test : (b : Bool) (found : Option _) (found_item : Option _) → found ≡ option_map f found_item → cond b (Some (f x)) found ≡ option_map f (cond b (Some x) found_item)
    by_test true found found_item e = refl
    by_test false found found_item e = e

-- the first parameter that is lacking, by the names of the table
required_rows : (kind : Kind) (committed : List (List ℕ × Value)) →
    find (λ (row : List ℕ × Row). row.1.required && is_none (value_named row.0 committed)) (rows_of kind)
    ≡ find (λ (row : List ℕ × Row). option_map_or (λ (r : Row). r.required && is_none (value_named row.0 committed)) (row_of kind row.0) false) (rows_of kind)
required_rows CameraOrthographic committed = refl
required_rows CameraPerspective committed = refl
required_rows FrameDefault committed = refl
required_rows GeometrySphere committed = refl
required_rows GeometryTriangle committed = refl
required_rows GroupDefault committed = refl
required_rows InstanceTransform committed = refl
required_rows LightDirectional committed = refl
required_rows LightPoint committed = refl
required_rows MaterialMatte committed = refl
required_rows RendererDefault committed = refl
required_rows SurfaceDefault committed = refl
required_rows WorldDefault committed = refl
required_rows (Array elem) committed = refl

pub missing_is : (o : SceneObject) → missing_parameter o ≡ find (lacks o.kind o) (parameters_of o.kind)
missing_is o =
    ap (option_map (λ (row : List ℕ × Row). row.0)) (required_rows o.kind o.committed)
    ∙ sym (found_mapped (lacks o.kind o) (λ (row : List ℕ × Row). row.0) (rows_of o.kind))

-- what is out of range of a visit: a value, else what its geometry has
pub broken_is : (objects : SceneObjects) (v : Visit) →
    broken_parameter objects v
    ≡ option_or (first_broken (tests_of v.object.kind v.spot.transform v.object)) (first_broken (geometry_tests v.object.kind objects v.object v.spot.transform))
unfolding broken_parameter
broken_is objects v = first_broken-append (tests_of v.object.kind v.spot.transform v.object) (geometry_tests v.object.kind objects v.object v.spot.transform)

-- what is found among mapped items from a place on
pub found_from : {X Y : Type 0} (p : Y → Bool) (f : X → Y) (xs : List X) (i : ℕ) (d : X) (b : Bool) → i < length xs → b ≡ p (f (get_or xs i d)) →
    find p (map f (drop i xs)) ≡ cond b (Some (f (get_or xs i d))) (find p (map f (drop (i + 1) xs)))
found_from p f xs i d b l e =
    ap (λ ys. find p (map f ys)) (drop_more xs i d l) ∙ ap (λ b. cond b (Some (f (get_or xs i d))) (find p (map f (drop (i + 1) xs)))) (sym e)

-- the same as it is asked
broken_as_read : (objects : SceneObjects) (v : Spot × ℕ) (h : ℕ) (kind : Kind) (m : Mat34) → h ≡ v.1 → kind ≡ (visited_object objects v.1).kind → m ≡ v.0.transform →
    broken_parameter objects (seen objects v)
    ≡ option_or (first_broken (tests_of kind m (visited_object objects h))) (first_broken (geometry_tests kind objects (visited_object objects h) m))
broken_as_read objects v h kind m e k t = rw (e, k, t) (broken_is objects (seen objects v))

pub broken_first : (objects : SceneObjects) (v : Spot × ℕ) (h : ℕ) (kind : Kind) (m : Mat34) (x : Option (List ℕ)) → h ≡ v.1 → kind ≡ (visited_object objects v.1).kind → m ≡ v.0.transform →
    x ≡ first_broken (tests_of kind m (visited_object objects h)) → is_some x ≡ true → x ≡ broken_parameter objects (seen objects v)
broken_first objects v h kind m x e k t is some =
    first_or x (first_broken (tests_of kind m (visited_object objects h))) (first_broken (geometry_tests kind objects (visited_object objects h) m)) is some
    ∙ sym (broken_as_read objects v h kind m e k t)

pub broken_next : (objects : SceneObjects) (v : Spot × ℕ) (h : ℕ) (kind : Kind) (m : Mat34) (x y : Option (List ℕ)) → h ≡ v.1 → kind ≡ (visited_object objects v.1).kind → m ≡ v.0.transform →
    x ≡ first_broken (tests_of kind m (visited_object objects h)) → is_some x ≡ false → y ≡ first_broken (geometry_tests kind objects (visited_object objects h) m) →
    y ≡ broken_parameter objects (seen objects v)
broken_next objects v h kind m x y e k t is none next =
    next_or x (first_broken (tests_of kind m (visited_object objects h))) y (first_broken (geometry_tests kind objects (visited_object objects h) m)) is none next
    ∙ sym (broken_as_read objects v h kind m e k t)

-- the refusal of a walk: that of a mapped object, else what is wrong besides
pub refusal_is : (objects : SceneObjects) (visits walked : List Visit) (mapped fault : Option Refused) → visits ≡ walked → mapped ≡ first_mapped visits → fault ≡ fault_of objects visits →
    walk_refusal objects walked ≡ option_or mapped fault
unfolding walk_refusal
refusal_is objects visits walked mapped fault e m f = rw (m, f, e) refl
