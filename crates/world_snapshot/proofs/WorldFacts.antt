-- A prepared world.
use Rattle.std.proofs.Common.{◌≡◌, ℕ, ◌≤◌, ◌^◌, Bool, true, false, List, All, Option, Some, None, arith, refl, ap, subst, sym, ◌∙◌, length}
use Rattle.std.specs.Prelude.{cond, nat_lt, IfOk, Result, Ok, Err}
use Rattle.std.proofs.lemmas.List.Elements.{All-map}
use Rattle.std.specs.Option.{option_or}
use Rattle.std.proofs.lemmas.Bool.{ltb-false}
use Rattle.dev_types.specs.declared.refusals.Refused.TheVariants.{TooMany}
use Rattle.fx_math.specs.declared.scene.Place.{Place}
use Rattle.fx_math.specs.declared.scene.Primitive.{Primitive}
use Rattle.fx_math.specs.declared.scene.Shape.{Shape}
use Rattle.kind_tables.specs.SceneObjects.{SceneObjects}
use Rattle.kind_tables.specs.Scenes.{lights_of, primitives_of}
use Rattle.kind_tables.specs.WalkRefusals.{fault_of, first_incomplete, first_limit, first_mapped, first_out_of_range, surface_count, too_many, walk_refusal}
use Rattle.kind_tables.specs.Typed.{AreFit}
use Rattle.kind_tables.specs.Walks.{Visit, walk}
use Rattle.picture_model.specs.Limits.{IsLightWithin, IsPrimitiveWithin, IsShapeWithin}
use Rattle.picture_model.specs.Shading.{placed}
use Rattle.scene_read.proofs.SceneLimits.{IsShownWithin, fit_shown_within}
use Rattle.scene_read.specs.SceneReads.{IsReadLight}
use Rattle.world_snapshot.specs.Worlds.{AreShapesWithin, IsShownBy, IsWorldWithin, World}

-- neither of two
both_none : {X : Type 0} (a b : Option X) → option_or a b ≡ None → (a ≡ None) × (b ≡ None)
both_none None b none = (refl, none)
both_none (Some x) b none = cc

-- what is not too many
within_limit : (limit count : ℕ) → too_many limit count ≡ None → count ≤ limit
within_limit limit count none = by (nat_lt limit count) refl
  where
    by : (b : Bool) → nat_lt limit count ≡ b → count ≤ limit
    by true over = let some : Some (TooMany limit) ≡ None = sym (ap (λ b. cond b (Some (TooMany limit)) None) over) ∙ none in cc
    by false within = ltb-false limit count within

-- a walk that is not refused shows at most 2^20 primitives
pub few_primitives : (objects : SceneObjects) (visits : List Visit) → walk_refusal objects visits ≡ None → length (primitives_of objects visits) ≤ 2 ^ 20
unfolding walk_refusal fault_of first_limit
few_primitives objects visits none =
    let fault = (both_none (first_mapped visits) (fault_of objects visits) none).1 in
    let rest = (both_none (first_incomplete visits) (option_or (first_limit objects visits) (first_out_of_range objects visits)) fault).1 in
    let limit = (both_none (first_limit objects visits) (first_out_of_range objects visits) rest).0 in
    let more = (both_none (too_many 65536 (surface_count visits)) _ limit).1 in
    let most = (both_none (too_many 256 (length (lights_of visits))) _ more).1 in
    omega (arith, within_limit 1048576 (length (primitives_of objects visits)) most)

-- what holds of everything holds of what a call gave
pub any_ok : {T E : Type 0} (P : T → Type 0) (result : Result T E) → ((t : T) → P t) → IfOk result P
any_ok P (Ok t) all = all t
any_ok P (Err e) all = tt

-- shapes that keep to the limits do so as a search sees them
pub placed_within : (ps : List Primitive) → AreShapesWithin ps → All (λ p. IsShapeWithin p.1) (placed ps)
placed_within ps within = All-map (λ (p : Place × Shape). IsShapeWithin p.1) (λ (p : Primitive). (p.place, p.shape)) ps within

-- a walk that is not refused has no fault
pub no_fault : (objects : SceneObjects) (visits : List Visit) → walk_refusal objects visits ≡ None → fault_of objects visits ≡ None
unfolding walk_refusal
no_fault objects visits none = (both_none (first_mapped visits) (fault_of objects visits) none).1

-- what is shown of a walk that is not refused is within the limits, where its lights were read as values
pub world_within : (objects : SceneObjects) (root : ℕ) (visits : List Visit) (world : World) → AreFit objects → visits ≡ walk objects root → walk_refusal objects (walk objects root) ≡ None →
    IsShownBy objects visits world → All IsReadLight (lights_of visits) → IsWorldWithin world
world_within objects root visits world fit seen none shown read =
    let within : IsShownWithin objects root = fit_shown_within objects root fit (no_fault objects (walk objects root) none) in
    let lights : world.lights ≡ lights_of (walk objects root) = shown.lights ∙ ap lights_of seen in
    record {
      primitives = subst (All IsPrimitiveWithin) (sym (shown.primitives ∙ ap (primitives_of objects) seen)) within.primitives;
      few = subst (λ ls. length ls ≤ 256) (sym lights) within.few;
      lights = subst (All IsLightWithin) (sym lights) (within.lights (subst (All IsReadLight) (ap lights_of seen) read));
    }
