-- What a surface, and a world, add to an extent.
use Rattle.std.proofs.Common.{◌≡◌, ◌∙◌, ℕ, ℤ, false, List, [], All, Option, Some, None, codes, refl, sym, ap, subst}
use Rattle.std.specs.Prelude.{fold}
use Rattle.std.specs.Option.{is_none, option_map_or, option_or}
use Rattle.dev_types.specs.declared.refusals.Refused.{Refused}
use Rattle.kind_tables.specs.SceneObjects.{SceneObjects, object_at}
use Rattle.kind_tables.specs.Scenes.{primitives_of, surface_primitives}
use Rattle.kind_tables.specs.Shapes.{shapes_of}
use Rattle.kind_tables.specs.Typed.{AreFit}
use Rattle.kind_tables.specs.WalkRefusals.{fault_of, first_mapped, walk_refusal}
use Rattle.kind_tables.specs.Walks.{Spot, Visit, walk}
use Rattle.picture_model.specs.Limits.{IsPrimitiveWithin}
use Rattle.scene_read.proofs.SceneLimits.{fit_shown_within}
use Rattle.scene_read.proofs.ShownFacts.{live_shapes, no_geometry, no_material, surface_read}
use Rattle.scene_read.specs.Shown.{finish_of, finished, live_in}
use Rattle.scene_read.specs.Starts.{visited_object}
use Rattle.seq_model.specs.Properties.{bounds_of}
use Rattle.device_queries.proofs.ExtentFacts.{of_shapes}
use Rattle.device_queries.specs.Extents.{with_primitive, with_shape}
use Rattle.device_queries.specs.declared.extents.Extent.{Extent}

-- a surface without a material, or without a geometry, adds nothing
pub without_material : (objects : SceneObjects) (spot : Spot) (h : ℕ) (e : Extent) → live_in objects h (codes "material") ≡ None →
    e ≡ fold with_primitive e (surface_primitives objects spot (visited_object objects h))
without_material objects spot h e none = sym (ap (fold with_primitive e) (no_material objects spot h none))

pub without_geometry : (objects : SceneObjects) (spot : Spot) (h : ℕ) (e : Extent) → live_in objects h (codes "geometry") ≡ None →
    e ≡ fold with_primitive e (surface_primitives objects spot (visited_object objects h))
without_geometry objects spot h e none = sym (ap (fold with_primitive e) (no_geometry objects spot h none))

-- a surface with both adds the shapes of its geometry
pub with_both : (objects : SceneObjects) (spot : Spot) (h material geometry : ℕ) (e : Extent) → live_in objects h (codes "material") ≡ Some material →
    live_in objects h (codes "geometry") ≡ Some geometry →
    fold with_shape e (option_map_or (λ g. shapes_of objects g spot.transform) (object_at objects geometry) [])
    ≡ fold with_primitive e (surface_primitives objects spot (visited_object objects h))
with_both objects spot h material geometry e has_material has_geometry =
    ap (fold with_shape e) (live_shapes objects spot h geometry (codes "geometry") has_geometry)
    ∙ sym (ap (fold with_primitive e) (surface_read objects spot h material geometry has_material has_geometry)
    ∙ of_shapes (finished spot (finish_of objects h material)) 0 e (shapes_of objects (visited_object objects geometry) spot.transform) (λ k s. refl))

-- what a world without a fault shows is within the limits of pictures, so its box is exact
second_none : (x y : Option Refused) → option_or x y ≡ None → y ≡ None
second_none None y none = none
second_none (Some x) y none = absurd cc

pub bounds_told : (objects : SceneObjects) (h : ℕ) (seen : List Visit) (box : List ℤ) → AreFit objects → seen ≡ walk objects h → walk_refusal objects (walk objects h) ≡ None →
    (All IsPrimitiveWithin (primitives_of objects seen) → box ≡ bounds_of (primitives_of objects seen)) → box ≡ bounds_of (primitives_of objects (walk objects h))
unfolding walk_refusal
bounds_told objects h seen box fit are none told =
    let faultless : fault_of objects (walk objects h) ≡ None = second_none (first_mapped (walk objects h)) (fault_of objects (walk objects h)) none in
    subst (λ (vs : List Visit). All IsPrimitiveWithin (primitives_of objects vs) → box ≡ bounds_of (primitives_of objects vs)) are told
    (fit_shown_within objects h fit faultless).primitives
