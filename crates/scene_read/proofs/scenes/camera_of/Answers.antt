use Rattle.std.proofs.Common.{◌≡◌, Option, codes, sym, ap, ◌∙◌}
use Rattle.std.specs.Option.{option_and_then, unwrap_or}
use Rattle.kind_tables.specs.SceneObjects.{SceneObject, object_at, object_named}
use Rattle.kind_tables.specs.Scenes.{camera_by, nothing_of}
use Rattle.kind_tables.specs.declared.kinds.Kind.TheVariants.{CameraOrthographic}
use Rattle.scene_read.proofs.ShownFacts.{named_read}
use Rattle.scene_read.specs.Starts.{visited_object}
use Rattle.scene_read.proofs.scenes.camera_of.Goals as goal

pub returns-clause-value : goal.returns-clause-value
returns-clause-value g c =
    let camera : option_and_then (object_at (g.O.Objects.objects c.args.state.now)) c.named.result
    ≡ object_named (g.O.Objects.objects c.args.state.now) (visited_object (g.O.Objects.objects c.args.state.now) c.args.frame) (codes "camera") =
    ap (option_and_then (object_at (g.O.Objects.objects c.args.state.now))) c.named.ensures ∙ sym (named_read (g.O.Objects.objects c.args.state.now) c.args.frame (codes "camera")) in
    c.camera.ensures.value ∙ ap (λ (o : Option SceneObject). camera_by (unwrap_or o (nothing_of CameraOrthographic)).kind (unwrap_or o (nothing_of CameraOrthographic))) camera
