-- What surfaces show, and what a frame names.
use Rattle.std.proofs.Common.{◌≡◌, ℕ, true, List, [], Option, Some, None, codes, length, map, refl, ap, sym, ◌∙◌}
use Rattle.std.specs.List.{enumerate_from}
use Rattle.std.specs.Option.{is_some, option_and_then, option_map, option_map_or, unwrap_or}
use Rattle.std.proofs.lemmas.List.{length-map}
use Rattle.std.proofs.lemmas.List.FromFn.{length-enumerate_from}
use Rattle.kind_tables.specs.SceneObjects.{SceneObject, SceneObjects, object_at, object_in, object_named, value_named}
use Rattle.kind_tables.specs.Scenes.{nothing_of, primitive, primitives_at, primitives_by, surface_primitives}
use Rattle.kind_tables.specs.Shapes.{shapes_of}
use Rattle.kind_tables.specs.WalkRefusals.{is_surface}
use Rattle.kind_tables.specs.Walks.{Spot, Visit}
use Rattle.kind_tables.specs.declared.kinds.Kind.{Kind}
use Rattle.kind_tables.specs.declared.kinds.Kind.TheVariants.{FrameDefault, SurfaceDefault}
use Rattle.scene_read.specs.Reading.{named_in}
use Rattle.scene_read.specs.Shown.{finish_of, finished, live_in}
use Rattle.scene_read.specs.Starts.{seen, visited_object}

-- what a visited object names
named_by : (name : List ℕ) (found : Option SceneObject) →
    option_and_then object_in (value_named name (unwrap_or found (nothing_of FrameDefault)).committed)
    ≡ option_and_then object_in (option_and_then (λ o. value_named name o.committed) found)
named_by name None = refl
named_by name (Some o) = refl

pub named_read : (objects : SceneObjects) (h : ℕ) (name : List ℕ) →
    object_named objects (visited_object objects h) name ≡ option_and_then (object_at objects) (named_in objects h name)
named_read objects h name = ap (option_and_then (object_at objects)) (named_by name (object_at objects h))

-- it is there exactly where it is live
live_by : (objects : SceneObjects) (named : Option ℕ) → option_and_then (λ g. option_map (λ o. g) (object_at objects g)) named ≡ None → option_and_then (object_at objects) named ≡ None
live_by objects None e = refl
live_by objects (Some g) e = by_object (object_at objects g) e
  where
    by_object : (found : Option SceneObject) → option_map (λ o. g) found ≡ None → found ≡ None
    by_object None e = refl
    by_object (Some o) e = cc

pub none_live : (objects : SceneObjects) (h : ℕ) (name : List ℕ) → live_in objects h name ≡ None → object_named objects (visited_object objects h) name ≡ None
none_live objects h name e = named_read objects h name ∙ live_by objects (named_in objects h name) e

same_live : (objects : SceneObjects) (named : Option ℕ) (g : ℕ) → option_and_then (λ g. option_map (λ o. g) (object_at objects g)) named ≡ Some g →
    option_and_then (object_at objects) named ≡ Some (visited_object objects g)
same_live objects None g e = cc
same_live objects (Some k) g e = by_object (object_at objects k) refl e
  where
    by_object : (found : Option SceneObject) → object_at objects k ≡ found → option_map (λ o. k) found ≡ Some g → object_at objects k ≡ Some (visited_object objects g)
    by_object None f e = cc
    by_object (Some o) f e = let same : k ≡ g = cc in rw (← same) (rw f refl)

pub some_live : (objects : SceneObjects) (h : ℕ) (name : List ℕ) (g : ℕ) → live_in objects h name ≡ Some g →
    object_named objects (visited_object objects h) name ≡ Some (visited_object objects g)
some_live objects h name g e = named_read objects h name ∙ same_live objects (named_in objects h name) g e

-- a surface without a material or without a geometry shows nothing
pub no_material : (objects : SceneObjects) (spot : Spot) (h : ℕ) → live_in objects h (codes "material") ≡ None → surface_primitives objects spot (visited_object objects h) ≡ []
no_material objects spot h e = rw (none_live objects h (codes "material") e) refl

nothing_shown : (objects : SceneObjects) (spot : Spot) (surface : SceneObject) (material : Option SceneObject) →
    option_map_or (λ material. map (primitive spot surface material) (enumerate_from 0 [])) material [] ≡ []
nothing_shown objects spot surface None = refl
nothing_shown objects spot surface (Some material) = refl

pub no_geometry : (objects : SceneObjects) (spot : Spot) (h : ℕ) → live_in objects h (codes "geometry") ≡ None → surface_primitives objects spot (visited_object objects h) ≡ []
no_geometry objects spot h e =
    rw (none_live objects h (codes "geometry") e) (nothing_shown objects spot (visited_object objects h) (object_named objects (visited_object objects h) (codes "material")))

-- what a surface with both shows
pub surface_read : (objects : SceneObjects) (spot : Spot) (h material geometry : ℕ) → live_in objects h (codes "material") ≡ Some material → live_in objects h (codes "geometry") ≡ Some geometry →
    surface_primitives objects spot (visited_object objects h)
    ≡ map (finished spot (finish_of objects h material)) (enumerate_from 0 (shapes_of objects (visited_object objects geometry) spot.transform))
surface_read objects spot h material geometry m e =
    rw (some_live objects h (codes "material") material m, some_live objects h (codes "geometry") geometry e) refl

-- a geometry that is live is there
pub live_shapes : (objects : SceneObjects) (spot : Spot) (h geometry : ℕ) (name : List ℕ) → live_in objects h name ≡ Some geometry →
    option_map_or (λ g. shapes_of objects g spot.transform) (object_at objects geometry) [] ≡ shapes_of objects (visited_object objects geometry) spot.transform
live_shapes objects spot h geometry name e = by_name (named_in objects h name) e
  where
    by_object : (k : ℕ) (found : Option SceneObject) → object_at objects k ≡ found → option_map (λ o. k) found ≡ Some geometry →
        option_map_or (λ g. shapes_of objects g spot.transform) (object_at objects geometry) [] ≡ shapes_of objects (visited_object objects geometry) spot.transform
    by_object k None f e = cc
    by_object k (Some o) f e = let same : k ≡ geometry = cc in rw (← same) (rw f refl)

    by_name : (named : Option ℕ) → option_and_then (λ g. option_map (λ o. g) (object_at objects g)) named ≡ Some geometry →
        option_map_or (λ g. shapes_of objects g spot.transform) (object_at objects geometry) [] ≡ shapes_of objects (visited_object objects geometry) spot.transform
    by_name None e = cc
    by_name (Some k) e = by_object k (object_at objects k) refl e

-- how many primitives a surface shows
surface_by : (kind : Kind) (objects : SceneObjects) (v : Visit) → is_surface kind ≡ true → primitives_by kind objects v ≡ surface_primitives objects v.spot v.object
surface_by SurfaceDefault objects v e = refl
surface_by _ objects v e = cc

counted_by : (objects : SceneObjects) (v : Spot × ℕ) (geometry count : ℕ) (material : Option ℕ) → live_in objects v.1 (codes "material") ≡ material → is_some material ≡ true →
    live_in objects v.1 (codes "geometry") ≡ Some geometry → count ≡ length (shapes_of objects (visited_object objects geometry) v.0.transform) →
    count ≡ length (surface_primitives objects v.0 (visited_object objects v.1))
counted_by objects v geometry count None m some e n = cc
counted_by objects v geometry count (Some material) m some e n =
    n
    ∙ sym (length-enumerate_from 0 (shapes_of objects (visited_object objects geometry) v.0.transform))
    ∙ sym (length-map (enumerate_from 0 (shapes_of objects (visited_object objects geometry) v.0.transform)) (finished v.0 (finish_of objects v.1 material)))
    ∙ ap length (sym (surface_read objects v.0 v.1 material geometry m e))

pub surface_counted : (objects : SceneObjects) (v : Spot × ℕ) (geometry count : ℕ) → is_surface (visited_object objects v.1).kind ≡ true → is_some (live_in objects v.1 (codes "material")) ≡ true →
    live_in objects v.1 (codes "geometry") ≡ Some geometry → count ≡ length (option_map_or (λ g. shapes_of objects g v.0.transform) (object_at objects geometry) []) →
    count ≡ length (primitives_at objects (seen objects v))
surface_counted objects v geometry count surface material e n =
    counted_by objects v geometry count (live_in objects v.1 (codes "material")) refl material e (n ∙ ap length (live_shapes objects v.0 v.1 geometry (codes "geometry") e))
    ∙ ap length (sym (surface_by (visited_object objects v.1).kind objects (seen objects v) surface))
