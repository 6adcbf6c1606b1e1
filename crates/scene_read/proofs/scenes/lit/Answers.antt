use Rattle.std.proofs.Common.{◌≡◌, Option, codes, sym, ap, ◌∙◌, rules, w32}
use Rattle.std.specs.Option.{option_and_then, unwrap_or}
use Rattle.std.proofs.lemmas.Int.{to_z-of_z}
use Rattle.kind_tables.specs.SceneObjects.{SceneObject, object_at, object_named}
use Rattle.kind_tables.specs.Scenes.{lighting_by, nothing_of}
use Rattle.kind_tables.specs.declared.kinds.Kind.TheVariants.{RendererDefault}
use Rattle.scene_read.proofs.ShownFacts.{named_read}
use Rattle.scene_read.specs.Starts.{visited_object}
use Rattle.scene_read.proofs.scenes.lit.Goals as goal

pub returns : goal.returns
returns g c =
    let renderer : option_and_then (object_at (g.O.Objects.objects c.args.state.now)) c.named.result
    ≡ object_named (g.O.Objects.objects c.args.state.now) (visited_object (g.O.Objects.objects c.args.state.now) c.args.frame) (codes "renderer") =
    ap (option_and_then (object_at (g.O.Objects.objects c.args.state.now))) c.named.ensures ∙ sym (named_read (g.O.Objects.objects c.args.state.now) c.args.frame (codes "renderer")) in
    rw (to_z-of_z w32 c.scalar.result (search rules), c.color.ensures, c.color-2.ensures, c.scalar.ensures)
    (ap (λ (o : Option SceneObject). lighting_by c.args.lights (unwrap_or o (nothing_of RendererDefault))) renderer)
