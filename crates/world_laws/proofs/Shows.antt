-- Over objects that are what they were, but for who is mapped, a world shows what it showed.
use Rattle.std.proofs.Common.{ℕ, zero, suc, ◌≡◌, ◌∙◌, List, [], ◌∷◌, ◌++◌, All, Option, Some, None, map, refl, sym, ap}
use Rattle.std.specs.Prelude.{codes, slice_get}
use Rattle.std.specs.List.{enumerate_from, filter_map, flat_map}
use Rattle.std.specs.Option.{option_and_then, option_map, option_map_or}
use Rattle.std.proofs.lemmas.List.Elements.{All-cons, All-head, All-nil, All-tail}
use Rattle.dev_types.specs.declared.data_types.DataType.TheVariants as ty
use Rattle.fx_math.specs.declared.scene.Primitive.{Primitive}
use Rattle.fx_math.specs.declared.scene.Shape.{Shape}
use Rattle.fx_math.specs.declared.transforms.Mat34.{Mat34}
use Rattle.kind_tables.proofs.WalkLaws.{each, put_together, second_part, unmapped}
use Rattle.kind_tables.specs.Rows.{required_row, rows_of}
use Rattle.kind_tables.specs.SceneObjects.{SceneObject, SceneObjects, array_named, elements, object_at, object_in, object_named, value_named}
use Rattle.kind_tables.specs.Scenes.{lights_of, primitive, primitives_at, primitives_by, primitives_of, surface_primitives, surface_shapes}
use Rattle.kind_tables.specs.Shapes.{shapes_by, shapes_of}
use Rattle.kind_tables.specs.Walks.{Spot, Visit, at_element, at_origin, at_parameters_of, below, named_elements, named_parameters, visit, walk, walk_from}
use Rattle.kind_tables.specs.declared.kinds.Kind.{Kind}
use Rattle.kind_tables.specs.declared.kinds.Kind.TheVariants.{Array, CameraOrthographic, GeometrySphere, GeometryTriangle, SurfaceDefault}
use Rattle.kind_tables.specs.declared.rows.Row.{Row}
use Rattle.past_laws.proofs.Stays.{walk_stays}
use Rattle.past_laws.specs.Stills.{AreStill, unmarked, unmarked_visit}
use Rattle.world_laws.proofs.Marks.{flat_unmarked, same_block, same_lights, same_reach, same_shapes}
use Rattle.world_laws.specs.Alike.{ShowsAsBefore}

-- what holds of all that is chosen from a list holds of what the item at a place gives
listed : {X Y : Type 0} (P : Y → Type 0) (f : X → Option Y) (xs : List X) (i : ℕ) (x : X) (y : Y) → slice_get xs i ≡ Some x → f x ≡ Some y → All P (filter_map f xs) → P y
listed P f [] i x y there is all = absurd cc
listed P f (z ∷ xs) zero x y there is all =
    let same : z ≡ x = cc in
    let here : f z ≡ Some y = ap f same ∙ is in
    All-head P y (filter_map f xs) (rw here at all)
listed {X} {Y} P f (z ∷ xs) (suc i) x y there is all = by (f z) refl (λ rest. listed P f xs i x y there is rest)
  where
    by : (w : Option Y) → f z ≡ w → (All P (filter_map f xs) → P y) → P y
    by None none rest = rest (rw none at all)
    by (Some w) some rest = rest (All-tail P w (filter_map f xs) (rw some at all))

same_flat : {X Y : Type 0} (f g : X → List Y) (xs : List X) → All (λ x. f x ≡ g x) xs → flat_map f xs ≡ flat_map g xs
same_flat f g [] same = refl
same_flat {X} f g (x ∷ xs) same =
    ap (λ first. first ++ flat_map f xs) (All-head (λ (y : X). f y ≡ g y) x xs same)
    ∙ ap (λ rest. g x ++ rest) (same_flat f g xs (All-tail (λ (y : X). f y ≡ g y) x xs same))

module _ (within : ℕ → Type 0) (old new : SceneObjects) (still : AreStill within old new) where
  -- what a parameter of an object of the set names is in the set
  named_within : (k h i : ℕ) (o : SceneObject) (name : List ℕ) (row : Row) → within k → object_at old k ≡ Some o → slice_get (rows_of o.kind) i ≡ Some (name, row) →
      option_and_then object_in (value_named name o.committed) ≡ Some h → within h
  unfolding below
  named_within k h i o name row is there at_i names =
      listed within (λ (row : List ℕ × Row). option_and_then object_in (value_named row.0 o.committed)) (rows_of o.kind) i (name, row) h at_i names
      (unmapped (λ (next : Spot × ℕ). within next.1) (λ (h : ℕ). (at_parameters_of o.kind o at_origin, h)) (named_parameters o)
      (second_part (λ (next : Spot × ℕ). within next.1) (map (λ (named : ℕ × ℕ). (at_element o.kind at_origin named.0, named.1)) (named_elements o))
      (map (λ (h : ℕ). (at_parameters_of o.kind o at_origin, h)) (named_parameters o)) (still.closed k o at_origin is there)))

  -- and is what it was
  same_named : (k i : ℕ) (o : SceneObject) (name : List ℕ) (row : Row) → within k → object_at old k ≡ Some o → slice_get (rows_of o.kind) i ≡ Some (name, row) →
      option_map unmarked (object_named new o name) ≡ option_map unmarked (object_named old o name)
  same_named k i o name row is there at_i = by (option_and_then object_in (value_named name o.committed)) refl
    where
      by : (x : Option ℕ) → option_and_then object_in (value_named name o.committed) ≡ x →
          option_map unmarked (option_and_then (object_at new) x) ≡ option_map unmarked (option_and_then (object_at old) x)
      by None none = refl
      by (Some h) some = still.same h (named_within k h i o name row is there at_i some)

  same_array : (k i : ℕ) (o : SceneObject) (name : List ℕ) (row : Row) → within k → object_at old k ≡ Some o → slice_get (rows_of o.kind) i ≡ Some (name, row) →
      array_named new o name ≡ array_named old o name
  same_array k i o name row is there at_i =
      ap (option_map elements) (same_block (object_named new o name) (object_named old o name) (same_named k i o name row is there at_i))

  -- the shapes of a geometry of the set
  module _ (k : ℕ) (g : SceneObject) (is : within k) (there : object_at old k ≡ Some g) where
    row_at : (kind : Kind) (i : ℕ) (row : List ℕ × Row) → g.kind ≡ kind → slice_get (rows_of kind) i ≡ Some row → slice_get (rows_of g.kind) i ≡ Some row
    row_at kind i row same at_i = ap (λ kind. slice_get (rows_of kind) i) same ∙ at_i

    same_by : (kind : Kind) (m : Mat34) → g.kind ≡ kind → shapes_by kind new g m ≡ shapes_by kind old g m
    same_by GeometryTriangle m same =
        let positions : array_named new g (codes "vertex.position") ≡ array_named old g (codes "vertex.position") =
        same_array k 0 g (codes "vertex.position") _ is there (row_at GeometryTriangle 0 _ same refl) in
        let indices : array_named new g (codes "primitive.index") ≡ array_named old g (codes "primitive.index") =
        same_array k 1 g (codes "primitive.index") _ is there (row_at GeometryTriangle 1 _ same refl) in
        rw positions (rw indices refl)
    same_by GeometrySphere m same =
        let positions : array_named new g (codes "vertex.position") ≡ array_named old g (codes "vertex.position") =
        same_array k 0 g (codes "vertex.position") _ is there (row_at GeometrySphere 0 _ same refl) in
        let radii : array_named new g (codes "vertex.radius") ≡ array_named old g (codes "vertex.radius") =
        same_array k 1 g (codes "vertex.radius") _ is there (row_at GeometrySphere 1 _ same refl) in
        rw positions (rw radii refl)
    same_by (Array elem) m same = refl
    same_by CameraOrthographic m same = refl
    same_by _ m same = refl

    geometry_stays : (p : SceneObject) (m : Mat34) → unmarked p ≡ unmarked g → shapes_of new p m ≡ shapes_of old g m
    unfolding shapes_of
    geometry_stays p m same = same_shapes new p g m same ∙ same_by g.kind m refl

  -- the primitives of a surface of the set
  abbrev shapes_at : SceneObjects → Mat34 → Option SceneObject → List Shape
  shapes_at objects m geometry = option_map_or (λ g. shapes_of objects g m) geometry []

  geometries_stay : (k i : ℕ) (o : SceneObject) (name : List ℕ) (row : Row) (m : Mat34) → within k → object_at old k ≡ Some o → slice_get (rows_of o.kind) i ≡ Some (name, row) →
      shapes_at new m (object_named new o name) ≡ shapes_at old m (object_named old o name)
  geometries_stay k i o name row m is there at_i = by (option_and_then object_in (value_named name o.committed)) refl
    where
      of : (h : ℕ) (x y : Option SceneObject) → within h → object_at old h ≡ x → option_map unmarked y ≡ option_map unmarked x → shapes_at new m y ≡ shapes_at old m x
      of h None None here was same = refl
      of h None (Some q) here was same = absurd cc
      of h (Some g) None here was same = absurd cc
      of h (Some g) (Some q) here was same = geometry_stays h g here was q m (let one : unmarked q ≡ unmarked g = cc in one)

      by : (x : Option ℕ) → option_and_then object_in (value_named name o.committed) ≡ x →
          shapes_at new m (option_and_then (object_at new) x) ≡ shapes_at old m (option_and_then (object_at old) x)
      by None none = refl
      by (Some h) some =
          let here : within h = named_within k h i o name row is there at_i some in
          of h (object_at old h) (object_at new h) here refl (still.same h here)

  -- a material shows the same whether it is mapped or not
  abbrev shown_under : Spot → SceneObject → List (ℕ × Shape) → Option SceneObject → List Primitive
  shown_under spot surface shapes material = option_map_or (λ material. map (primitive spot surface material) shapes) material []

  same_material : (spot : Spot) (surface : SceneObject) (shapes : List (ℕ × Shape)) (x y : Option SceneObject) → option_map unmarked x ≡ option_map unmarked y →
      shown_under spot surface shapes x ≡ shown_under spot surface shapes y
  same_material spot surface shapes x y same = sym (of x) ∙ ap (shown_under spot surface shapes) same ∙ of y
    where
      of : (x : Option SceneObject) → shown_under spot surface shapes (option_map unmarked x) ≡ shown_under spot surface shapes x
      of None = refl
      of (Some o) = refl

  surface_stays : (k : ℕ) (o : SceneObject) (spot : Spot) → within k → object_at old k ≡ Some o → o.kind ≡ SurfaceDefault → surface_primitives new spot o ≡ surface_primitives old spot o
  surface_stays k o spot is there kind =
      same_material spot o (surface_shapes new spot o) (object_named new o (codes "material")) (object_named old o (codes "material"))
      (same_named k 1 o (codes "material") (required_row ty.Material) is there (ap (λ kind. slice_get (rows_of kind) 1) kind))
      ∙ ap (λ shapes. shown_under spot o (enumerate_from 0 shapes) (object_named old o (codes "material")))
      (geometries_stay k 0 o (codes "geometry") (required_row ty.Geometry) spot.transform is there (ap (λ kind. slice_get (rows_of kind) 0) kind))

  -- a visit of an object of the set, as it was
  abbrev IsWithin : Visit → Type 0
  IsWithin v = within v.handle × (object_at old v.handle ≡ Some v.object)

  visit_stays : (v : Visit) → IsWithin v → primitives_at new v ≡ primitives_at old v
  visit_stays v is = by v.object.kind refl
    where
      by : (kind : Kind) → v.object.kind ≡ kind → primitives_by kind new v ≡ primitives_by kind old v
      by SurfaceDefault kind = surface_stays v.handle v.object v.spot is.0 is.1 kind
      by (Array elem) kind = refl
      by CameraOrthographic kind = refl
      by _ kind = refl

  walk_within : (n : ℕ) (start : Spot × ℕ) → within start.1 → All IsWithin (walk_from n old start)
  unfolding walk_from
  walk_within zero start is = All-nil IsWithin
  walk_within (suc n) start is = by (object_at old start.1) refl (walk_within n)
    where
      by : (x : Option SceneObject) → object_at old start.1 ≡ x → ((next : Spot × ℕ) → within next.1 → All IsWithin (walk_from n old next)) →
          All IsWithin (option_map_or (λ o. visit start o ∷ flat_map (walk_from n old) (below start.0 o)) x [])
      by None none deeper = All-nil IsWithin
      by (Some o) there deeper =
          All-cons IsWithin (visit start o) (flat_map (walk_from n old) (below start.0 o)) (is, there)
          (put_together IsWithin (walk_from n old) (below start.0 o)
          (each (λ (next : Spot × ℕ). within next.1) (λ (next : Spot × ℕ). All IsWithin (walk_from n old next)) (below start.0 o) deeper (still.closed start.1 o start.0 is there)))

  same_visits : (w : ℕ) → within w → map unmarked_visit (walk new w) ≡ map unmarked_visit (walk old w)
  unfolding walk
  same_visits w is = walk_stays within old new still 10 (at_origin, w) is

  same_primitives : (w : ℕ) → within w → primitives_of new (walk new w) ≡ primitives_of old (walk old w)
  unfolding primitives_of walk
  same_primitives w is =
      sym (flat_unmarked new (walk new w)) ∙ ap (flat_map (primitives_at new)) (same_visits w is) ∙ flat_unmarked new (walk old w)
      ∙ same_flat (primitives_at new) (primitives_at old) (walk old w)
      (each IsWithin (λ v. primitives_at new v ≡ primitives_at old v) (walk old w) visit_stays (walk_within 10 (at_origin, w) is))

  pub shows_as_before : (w : ℕ) → within w → ShowsAsBefore old new w
  shows_as_before w is = record {
    visits = same_visits w is;
    reach = same_reach (walk new w) (walk old w) (same_visits w is);
    shown =
        ap (λ ps. record { primitives = ps; lights = lights_of (walk new w) }) (same_primitives w is)
        ∙ ap (λ ls. record { primitives = primitives_of old (walk old w); lights = ls }) (same_lights (walk new w) (walk old w) (same_visits w is));
  }
