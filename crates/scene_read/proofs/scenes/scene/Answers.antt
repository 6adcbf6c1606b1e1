use Rattle.std.proofs.Common.{◌≡◌, All, Some, ap, ◌∙◌, refl, codes, sym, subst}
use Rattle.std.specs.Option.{unwrap_or}
use Rattle.fx_math.specs.declared.scene.Lighting.{Lighting}
use Rattle.kind_tables.specs.SceneObjects.{SceneObject, object_at, value_at}
use Rattle.kind_tables.specs.Scenes.{nothing_of, scene, scene_by}
use Rattle.kind_tables.specs.declared.kinds.Kind.TheVariants.{FrameDefault}
use Rattle.picture_model.specs.Limits.{IsSceneWithin}
use Rattle.scene_read.proofs.SceneLimits.{fit_scene_within, found_kind}
use Rattle.scene_read.proofs.StartFacts.{walk_seen_again}
use Rattle.scene_read.specs.SceneReads.{IsReadLight, IsReadScene, size_of_frame}
use Rattle.scene_read.specs.Shown.{lit}
use Rattle.scene_read.specs.Starts.{all_seen, visited_object}
use Rattle.scene_read.proofs.scenes.scene.Goals as goal

pub returns-clause-by_visits : goal.returns-clause-by_visits
unfolding scene_by
returns-clause-by_visits g c =
    rw (c.new.ensures, c.in_ok-primitives.ensures, c.camera_of.ensures.value, c.lit.ensures, c.new-2.ensures, c.in_ok-lights.ensures.value, c.as_slice-visits.ensures, c.sides-width.ensures.width, c.sides-width.ensures.height) refl

pub returns-clause-of_frame : goal.returns-clause-of_frame
unfolding scene
returns-clause-of_frame g c =
    λ e. returns-clause-by_visits g c
    ∙ ap (scene_by (g.O.Objects.objects c.args.state.now) (visited_object (g.O.Objects.objects c.args.state.now) c.args.frame))
    (ap (all_seen (g.O.Objects.objects c.args.state.now)) e ∙ walk_seen_again (g.O.Objects.objects c.args.state.now) c.args.frame)

pub returns-clause-within : goal.returns-clause-within
unfolding scene
returns-clause-within g c = λ fit kind none walked.
    let objects = g.O.Objects.objects c.args.state.now in
    let frame : (o : SceneObject) × ((object_at objects c.args.frame ≡ Some o) × (o.kind ≡ FrameDefault)) = found_kind (object_at objects c.args.frame) FrameDefault kind in
    let is = returns-clause-of_frame g c walked in
    let lights = c.lit.ensures ∙ ap (lit objects c.args.frame) c.new-2.ensures in
    let read : IsReadScene (size_of_frame objects c.args.frame) (scene objects c.args.frame) =
    subst (IsReadScene (size_of_frame objects c.args.frame)) is (record {
      sides = c.sides-width.ensures.sides;
      camera = c.camera_of.ensures.read;
      lights = subst (λ (lighting : Lighting). All IsReadLight lighting.lights) (sym lights) c.in_ok-lights.ensures.read;
    }) in
    subst IsSceneWithin (sym is) (fit_scene_within objects c.args.frame frame.0 fit frame.1.0 frame.1.1 none
    (subst (λ x. IsReadScene (value_at (unwrap_or x (nothing_of FrameDefault)) (codes "size")) (scene objects c.args.frame)) frame.1.0 read))
