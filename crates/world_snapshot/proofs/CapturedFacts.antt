-- Arrays and geometries as they are captured.
use Rattle.std.proofs.Common.{◌≡◌, ℕ, zero, suc, ◌+◌, List, [], ◌∷◌, Option, Some, None, codes, map, refl, ap, sym, ◌∙◌}
use Rattle.std.specs.List.{enumerate_from, range_with_len}
use Rattle.std.specs.Option.{option_and_then, option_map, option_map_or}
use Rattle.std.proofs.lemmas.Simd.{map-map}
use Rattle.byte_view.specs.Elements.{Elements}
use Rattle.fx_math.specs.declared.transforms.Mat34.{Mat34}
use Rattle.kind_tables.specs.SceneObjects.{Block, SceneObject, SceneObjects, id_in, object_at, scalar_of, scalars_of, value_at}
use Rattle.kind_tables.specs.Scenes.{surface_primitives}
use Rattle.kind_tables.specs.Shapes.{shapes_of}
use Rattle.kind_tables.specs.Walks.{Spot}
use Rattle.scene_read.proofs.ShownFacts.{live_shapes, surface_read}
use Rattle.scene_read.specs.Reading.{content_of, lent}
use Rattle.scene_read.specs.Shown.{finish_of, finished, live_in}
use Rattle.scene_read.specs.Starts.{visited_object}
use Rattle.world_snapshot.specs.Captured.{Surface, primitives_of, shape_at, shape_count, shapes_in}
use Rattle.world_snapshot.specs.declared.geometries.Geometry.{Geometry}

-- the bytes of an array
abbrev pub bytes_of : SceneObjects → ℕ → Option (List ℕ)
bytes_of objects h = option_and_then (λ o. option_map (λ b. b.bytes) o.block) (object_at objects h)

no_block_by : (found : Option SceneObject) → option_and_then (λ o. option_map (λ (b : Block). b.bytes) o.block) found ≡ None → option_and_then (λ o. option_map lent o.block) found ≡ None
no_block_by None none = refl
no_block_by (Some o) none = by_block o.block none
  where
    by_block : (block : Option Block) → option_map (λ (b : Block). b.bytes) block ≡ None → option_map lent block ≡ None
    by_block None none = refl
    by_block (Some b) none = cc

-- where there is no block there are no elements
pub no_block : (objects : SceneObjects) (h : ℕ) → bytes_of objects h ≡ None → content_of objects h ≡ None
no_block objects h none = no_block_by (object_at objects h) none

same_block_by : (found : Option SceneObject) (bytes : List ℕ) (e : Elements) → option_and_then (λ o. option_map (λ (b : Block). b.bytes) o.block) found ≡ Some bytes →
    option_and_then (λ o. option_map lent o.block) found ≡ Some e → record e { bytes = bytes } ≡ e
same_block_by None bytes e block elements = cc
same_block_by (Some o) bytes e block elements = by_block o.block block elements
  where
    by_block : (b : Option Block) → option_map (λ (b : Block). b.bytes) b ≡ Some bytes → option_map lent b ≡ Some e → record e { bytes = bytes } ≡ e
    by_block None block elements = cc
    by_block (Some b) block elements =
        let same : b.bytes ≡ bytes = cc in
        let is : lent b ≡ e = cc in
        ap (λ xs. record e { bytes = xs }) (sym same ∙ ap (λ (e : Elements). e.bytes) is)

-- the block of an array is that of its elements
pub same_block : (objects : SceneObjects) (h : ℕ) (bytes : List ℕ) (e : Elements) → bytes_of objects h ≡ Some bytes → content_of objects h ≡ Some e → record e { bytes = bytes } ≡ e
same_block objects h bytes e block elements = same_block_by (object_at objects h) bytes e block elements

-- items of numbers in a row, each with its number
pub numbered : {X : Type 0} (f : ℕ → X) (a n : ℕ) → enumerate_from a (map f (range_with_len a n)) ≡ map (λ k. (k, f k)) (range_with_len a n)
numbered f a zero = refl
numbered f a (suc n) = ap (λ xs. (a, f a) ∷ xs) (numbered f (a + 1) n)

-- the shapes of a geometry that is captured
abbrev pub AreShapes : SceneObjects → ℕ → Option Geometry → Type 0
AreShapes objects h g = (m : Mat34) → shapes_in m g ≡ option_map_or (λ geometry. shapes_of objects geometry m) (object_at objects h) []

-- the shapes of a geometry that a surface names
named_shapes : (objects : SceneObjects) (spot : Spot) (h geometry : ℕ) (g : Option Geometry) → live_in objects h (codes "geometry") ≡ Some geometry → AreShapes objects geometry g →
    shapes_in spot.transform g ≡ shapes_of objects (visited_object objects geometry) spot.transform
named_shapes objects spot h geometry g e shapes = shapes spot.transform ∙ live_shapes objects spot h geometry (codes "geometry") e

-- a surface shows what is captured of it
pub surface_shows : (objects : SceneObjects) (spot : Spot) (h material geometry : ℕ) (g : Geometry) (s : Surface) →
    live_in objects h (codes "material") ≡ Some material → live_in objects h (codes "geometry") ≡ Some geometry → AreShapes objects geometry (Some g) →
    s.spot ≡ spot → s.color ≡ scalars_of (visited_object objects material) (codes "color") → s.opacity ≡ scalar_of (visited_object objects material) (codes "opacity") →
    s.object_id ≡ id_in (value_at (visited_object objects h) (codes "id")) → s.geometry ≡ g →
    primitives_of s ≡ surface_primitives objects spot (visited_object objects h)
surface_shows objects spot h material geometry g s m e shapes spot_is color_is opacity_is id_is geometry_is =
    let whole : Surface = record {
      spot = spot;
      color = scalars_of (visited_object objects material) (codes "color");
      opacity = scalar_of (visited_object objects material) (codes "opacity");
      object_id = id_in (value_at (visited_object objects h) (codes "id"));
      geometry = g;
    } in
    let same : s ≡ whole = λ i. record { spot = spot_is i; color = color_is i; opacity = opacity_is i; object_id = id_is i; geometry = geometry_is i } in
    ap primitives_of same
    ∙ sym (map-map (finished spot (finish_of objects h material)) (λ k. (k, shape_at spot.transform g k)) (range_with_len 0 (shape_count g)))
    ∙ ap (map (finished spot (finish_of objects h material))) (sym (numbered (shape_at spot.transform g) 0 (shape_count g)))
    ∙ ap (λ xs. map (finished spot (finish_of objects h material)) (enumerate_from 0 xs)) (named_shapes objects spot h geometry (Some g) e shapes)
    ∙ sym (surface_read objects spot h material geometry m e)

-- a surface whose geometry is none shows nothing
pub surface_shows_nothing : (objects : SceneObjects) (spot : Spot) (h material geometry : ℕ) →
    live_in objects h (codes "material") ≡ Some material → live_in objects h (codes "geometry") ≡ Some geometry → AreShapes objects geometry None →
    surface_primitives objects spot (visited_object objects h) ≡ []
surface_shows_nothing objects spot h material geometry m e shapes =
    surface_read objects spot h material geometry m e
    ∙ ap (λ xs. map (finished spot (finish_of objects h material)) (enumerate_from 0 xs)) (sym (named_shapes objects spot h geometry None e shapes))
