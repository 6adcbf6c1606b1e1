use Rattle.std.proofs.Common.{◌≡◌, All, Some, ap, codes, refl, subst, sym, ◌∙◌}
use Rattle.std.specs.Option.{unwrap_or}
use Rattle.kind_tables.specs.SceneObjects.{SceneObject, object_at, object_named, value_at}
use Rattle.kind_tables.specs.Scenes.{camera_of, lighting_by, nothing_of, scene, scene_by, side_of}
use Rattle.kind_tables.specs.Walks.{walk}
use Rattle.kind_tables.specs.declared.kinds.Kind.TheVariants.{FrameDefault, RendererDefault}
use Rattle.picture_model.specs.Limits.{IsCameraWithin, IsLightingWithin, IsSide}
use Rattle.scene_read.proofs.SceneLimits.{IsFrameWithin, fit_frame_within, found_kind}
use Rattle.scene_read.specs.SceneReads.{HasSides, IsReadCamera, IsReadLight}
use Rattle.scene_read.specs.Shown.{lit}
use Rattle.world_snapshot.proofs.WorldFacts.{no_fault, world_within}
use Rattle.world_snapshot.specs.Worlds.{IsWorldWithin}
use Rattle.world_snapshot.proofs.views.view_of.Goals as goal

pub returns-clause-scene : goal.returns-clause-scene
unfolding scene scene_by
returns-clause-scene g c = λ shown i. record {
  primitives = shown.primitives i;
  camera = c.camera_of.ensures.value i;
  lighting = (c.lit.ensures ∙ ap (lit (g.O.Objects.objects c.args.state.now) c.args.frame) (c.in_ok-lights.ensures.value ∙ shown.lights)) i;
  width = c.sides.ensures.width i;
  height = c.sides.ensures.height i;
}

pub returns-clause-within : goal.returns-clause-within
returns-clause-within g c = λ fit kind none shown.
    let objects = g.O.Objects.objects c.args.state.now in
    let lights = c.args.prepared.now.lights in
    let world : IsWorldWithin c.args.prepared.now =
    world_within objects c.args.frame (walk objects c.args.frame) c.args.prepared.now fit refl none shown (subst (All IsReadLight) shown.lights c.in_ok-lights.ensures.read) in
    let frame : (o : SceneObject) × ((object_at objects c.args.frame ≡ Some o) × (o.kind ≡ FrameDefault)) = found_kind (object_at objects c.args.frame) FrameDefault kind in
    let camera : c.camera_of.result ≡ camera_of objects frame.0 = c.camera_of.ensures.value ∙ ap (λ x. camera_of objects (unwrap_or x (nothing_of FrameDefault))) frame.1.0 in
    let lighting : c.lit.result ≡ lighting_by lights (unwrap_or (object_named objects frame.0 (codes "renderer")) (nothing_of RendererDefault)) =
    c.lit.ensures ∙ ap (lit objects c.args.frame) c.in_ok-lights.ensures.value
    ∙ ap (λ x. lighting_by lights (unwrap_or (object_named objects (unwrap_or x (nothing_of FrameDefault)) (codes "renderer")) (nothing_of RendererDefault))) frame.1.0 in
    let within : IsFrameWithin objects frame.0 lights =
    fit_frame_within objects c.args.frame frame.0 lights fit frame.1.0 frame.1.1 (no_fault objects (walk objects c.args.frame) none)
    (subst (λ x. HasSides (value_at (unwrap_or x (nothing_of FrameDefault)) (codes "size"))) frame.1.0 c.sides.ensures.sides)
    (subst IsReadCamera camera c.camera_of.ensures.read) world.few world.lights in
    record {
      primitives = world.primitives;
      camera = subst IsCameraWithin (sym camera) within.camera;
      lighting = subst IsLightingWithin (sym lighting) within.lighting;
      width = subst IsSide (sym (c.sides.ensures.width ∙ ap (λ x. side_of (unwrap_or x (nothing_of FrameDefault)) 0) frame.1.0)) within.width;
      height = subst IsSide (sym (c.sides.ensures.height ∙ ap (λ x. side_of (unwrap_or x (nothing_of FrameDefault)) 1) frame.1.0)) within.height;
    }
