-- Where walks go on.
use Rattle.std.proofs.Common.{◌≡◌, ℕ, zero, suc, ◌-◌, false, List, [], ◌∷◌, ◌++◌, Option, Some, None, All, map, refl, ap, subst, sym, ◌∙◌, arith}
use Rattle.std.specs.List.{filter_map, flat_map, cons_option, range_with_len}
use Rattle.std.specs.Option.{option_and_then, option_map, option_map_or, unwrap_or}
use Rattle.std.proofs.lemmas.List.{map-append}
use Rattle.std.proofs.lemmas.List.Elements.{All-head, All-tail}
use Rattle.byte_view.specs.Elements.{Elements, element}
use Rattle.dev_types.specs.DataTypes.{is_object_type}
use Rattle.dev_types.specs.ValueBytes.{value_of}
use Rattle.dev_types.specs.declared.data_types.DataType.{DataType}
use Rattle.dev_types.specs.declared.data_types.DataType.TheVariants as ty
use Rattle.kind_tables.specs.Rows.{parameters_of, rows_of}
use Rattle.kind_tables.specs.SceneObjects.{Block, SceneObject, SceneObjects, object_at, object_in, objects_in, value_named}
use Rattle.kind_tables.proofs.WalkLaws.{visits_are_objects}
use Rattle.kind_tables.specs.Scenes.{nothing_of}
use Rattle.kind_tables.specs.Walks.{Spot, Visit, at_element, at_origin, at_parameters_of, below, named_parameters, walk, walk_from}
use Rattle.kind_tables.specs.declared.kinds.Kind.{Kind}
use Rattle.kind_tables.specs.declared.kinds.Kind.TheVariants.{FrameDefault}
use Rattle.kind_tables.specs.declared.rows.Row.{Row}
use Rattle.scene_read.specs.Reading.{content_of, lent}
use Rattle.scene_read.specs.Starts.{all_seen, content_starts, element_start, element_starts, parameter_starts, seen, start_of, starts_below, starts_of, visited_object}

-- the value of a type that is no object's names none
pub no_object : (t : DataType) (bytes : List ℕ) → is_object_type t ≡ false → object_in (value_of t bytes) ≡ None
no_object ty.Int32 bytes e = refl
no_object _ bytes e = cc

-- so the walk does not go on from such elements
nowhere : (kind : Kind) (spot : Spot) (e : Elements) → is_object_type e.ty ≡ false → (is : List ℕ) → filter_map (element_start kind spot e) is ≡ []
nowhere kind spot e values [] = refl
nowhere kind spot e values (i ∷ is) =
    let none : object_in (element e i) ≡ None = no_object e.ty _ values in
    rw none (nowhere kind spot e values is)

pub values_name_nothing : (kind : Kind) (spot : Spot) (e : Elements) → is_object_type e.ty ≡ false → element_starts kind spot e e.count ≡ []
values_name_nothing kind spot e values = nowhere kind spot e values (range_with_len 0 e.count)

-- each item with what it names, placed
placed_item : {Z : Type 0} (f : ℕ × ℕ → Z) (i : ℕ) (o : Option ℕ) (xs : List (ℕ × ℕ)) (zs : List Z) → map f xs ≡ zs →
    map f (cons_option (option_map (λ h. (i, h)) o) xs) ≡ cons_option (option_map (λ h. f (i, h)) o) zs
placed_item f i None xs zs e = e
placed_item f i (Some h) xs zs e = ap (λ ys. f (i, h) ∷ ys) e

placed_items : {Z : Type 0} (f : ℕ × ℕ → Z) (g : ℕ → Option ℕ) (is : List ℕ) →
    map f (filter_map (λ i. option_map (λ h. (i, h)) (g i)) is) ≡ filter_map (λ i. option_map (λ h. f (i, h)) (g i)) is
placed_items f g [] = refl
placed_items f g (i ∷ is) = placed_item f i (g i) _ _ (placed_items f g is)

-- what each parameter names, placed
placed_name : {Z : Type 0} (f : ℕ → Z) (o : Option ℕ) (xs : List ℕ) (zs : List Z) → map f xs ≡ zs → map f (cons_option o xs) ≡ cons_option (option_map f o) zs
placed_name f None xs zs e = e
placed_name f (Some h) xs zs e = ap (λ ys. f h ∷ ys) e

placed_names : {Z : Type 0} (f : ℕ → Z) (g : List ℕ → Option ℕ) (rows : List (List ℕ × Row)) →
    map f (filter_map (λ row. g row.0) rows) ≡ filter_map (λ name. option_map f (g name)) (map (λ row. row.0) rows)
placed_names f g [] = refl
placed_names f g (row ∷ rows) = placed_name f (g row.0) _ _ (placed_names f g rows)

-- below an array
content_below : (kind : Kind) (spot : Spot) (block : Option Block) →
    map (λ (named : ℕ × ℕ). (at_element kind spot named.0, named.1)) (option_map_or objects_in block [])
    ≡ content_starts kind spot (option_map lent block)
content_below kind spot None = refl
content_below kind spot (Some b) =
    placed_items (λ (named : ℕ × ℕ). (at_element kind spot named.0, named.1)) (λ i. object_in (element (lent b) i)) (range_with_len 0 b.count)

-- what the parameters of an object name, if it is there
abbrev parameters_by : Option SceneObject → Spot → List (List ℕ) → List (Spot × ℕ)
parameters_by found spot names =
    filter_map (λ name. option_map (λ g. (spot, g)) (option_and_then object_in (option_and_then (λ o. value_named name o.committed) found))) names

-- below an object
pub below_is : (objects : SceneObjects) (spot : Spot) (h : ℕ) (o : SceneObject) → object_at objects h ≡ Some o →
    below spot o ≡ content_starts o.kind spot (option_map lent o.block) ++ parameter_starts objects h (at_parameters_of o.kind o spot) (parameters_of o.kind)
unfolding below
below_is objects spot h o e =
    let P : Option SceneObject → Type 0 = λ found.
    below spot o ≡ content_starts o.kind spot (option_map lent o.block) ++ parameters_by found (at_parameters_of o.kind o spot) (parameters_of o.kind) in
    subst P (sym e)
    (ap (λ xs. xs ++ map (λ h. (at_parameters_of o.kind o spot, h)) (named_parameters o)) (content_below o.kind spot o.block)
    ∙ ap (λ xs. content_starts o.kind spot (option_map lent o.block) ++ xs)
    (placed_names (λ g. (at_parameters_of o.kind o spot, g)) (λ name. option_and_then object_in (value_named name o.committed)) (rows_of o.kind)))

-- the starts of a walk: that of its first object, then those of the walks below it
starts_together : (f : Spot × ℕ → List Visit) (starts : List (Spot × ℕ)) → starts_of (flat_map f starts) ≡ flat_map (λ start. starts_of (f start)) starts
starts_together f [] = refl
starts_together f (start ∷ starts) = map-append start_of (f start) (flat_map f starts) ∙ ap (λ xs. starts_of (f start) ++ xs) (starts_together f starts)

pub walk_starts : (objects : SceneObjects) (n : ℕ) (start : Spot × ℕ) (o : SceneObject) → object_at objects start.1 ≡ Some o →
    starts_of (walk_from (suc n) objects start) ≡ start ∷ flat_map (λ next. starts_of (walk_from n objects next)) (starts_below objects start)
unfolding walk_from
walk_starts objects n start o e = rw e (ap (λ xs. start ∷ xs) (starts_together (walk_from n objects) (below start.0 o)))

pub no_walk : (objects : SceneObjects) (n : ℕ) (start : Spot × ℕ) → object_at objects start.1 ≡ None → starts_of (walk_from n objects start) ≡ []
unfolding walk_from
no_walk objects zero start e = refl
no_walk objects (suc n) start e = rw e refl

-- below an object of a kind, as it is read
below_by : (objects : SceneObjects) (spot : Spot) (h : ℕ) (kind : Kind) (found : Option SceneObject) → object_at objects h ≡ found → option_map (λ o. o.kind) found ≡ Some kind →
    option_map_or (below spot) found []
    ≡ content_starts kind spot (option_and_then (λ o. option_map lent o.block) found)
    ++ parameter_starts objects h (at_parameters_of kind (unwrap_or found (nothing_of FrameDefault)) spot) (parameters_of kind)
below_by objects spot h kind None e k = cc
below_by objects spot h kind (Some o) e k = let same : kind ≡ o.kind = cc in rw same (below_is objects spot h o e)

pub below_read : (objects : SceneObjects) (spot : Spot) (h : ℕ) (kind : Kind) → option_map (λ o. o.kind) (object_at objects h) ≡ Some kind →
    starts_below objects (spot, h)
    ≡ content_starts kind spot (content_of objects h) ++ parameter_starts objects h (at_parameters_of kind (visited_object objects h) spot) (parameters_of kind)
below_read objects spot h kind k = below_by objects spot h kind (object_at objects h) refl k

-- the walk from an object of a kind
walk_by : (objects : SceneObjects) (n : ℕ) (start : Spot × ℕ) (kind : Kind) (found : Option SceneObject) → object_at objects start.1 ≡ found → option_map (λ o. o.kind) found ≡ Some kind →
    starts_of (walk_from (suc n) objects start) ≡ start ∷ flat_map (λ next. starts_of (walk_from n objects next)) (starts_below objects start)
walk_by objects n start kind None e k = cc
walk_by objects n start kind (Some o) e k = walk_starts objects n start o e

pub walk_read : (objects : SceneObjects) (depth : ℕ) (start : Spot × ℕ) (kind : Kind) → (depth ≡ 0 → ⊥) → option_map (λ o. o.kind) (object_at objects start.1) ≡ Some kind →
    starts_of (walk_from depth objects start) ≡ start ∷ flat_map (λ next. starts_of (walk_from (depth - 1) objects next)) (starts_below objects start)
walk_read objects zero start kind deep k = absurd (deep refl)
walk_read objects (suc n) start kind deep k =
    let e : suc n - 1 ≡ n = omega arith in
    rw e (walk_by objects n start kind (object_at objects start.1) refl k)

nothing_there : (found : Option SceneObject) → option_map (λ o. o.kind) found ≡ None → found ≡ None
nothing_there None e = refl
nothing_there (Some o) e = cc

pub no_walk_read : (objects : SceneObjects) (n : ℕ) (start : Spot × ℕ) → option_map (λ o. o.kind) (object_at objects start.1) ≡ None → starts_of (walk_from n objects start) ≡ []
no_walk_read objects n start e = no_walk objects n start (nothing_there (object_at objects start.1) e)

pub no_depth : (objects : SceneObjects) (start : Spot × ℕ) → starts_of (walk_from 0 objects start) ≡ []
unfolding walk_from
no_depth objects start = refl

-- what was visited is seen again
seen_again : (objects : SceneObjects) (v : Visit) → object_at objects v.handle ≡ Some v.object → seen objects (start_of v) ≡ v
seen_again objects v e = rw e refl

pub all_seen_again : (objects : SceneObjects) (visits : List Visit) → All (λ v. object_at objects v.handle ≡ Some v.object) visits → all_seen objects (starts_of visits) ≡ visits
all_seen_again objects [] h = refl
all_seen_again objects (v ∷ visits) h =
    let first : seen objects (start_of v) ≡ v = seen_again objects v (All-head (λ (v : Visit). object_at objects v.handle ≡ Some v.object) v visits h) in
    let others : all_seen objects (starts_of visits) ≡ visits = all_seen_again objects visits (All-tail (λ (v : Visit). object_at objects v.handle ≡ Some v.object) v visits h) in
    ap (λ x. x ∷ all_seen objects (starts_of visits)) first ∙ ap (λ xs. v ∷ xs) others

pub walk_seen_again : (objects : SceneObjects) (root : ℕ) → all_seen objects (starts_of (walk objects root)) ≡ walk objects root
walk_seen_again objects root = all_seen_again objects (walk objects root) (visits_are_objects objects root)

pub walk_is : (objects : SceneObjects) (root : ℕ) → starts_of (walk_from 10 objects (at_origin, root)) ≡ starts_of (walk objects root)
unfolding walk
walk_is objects root = refl
