use Rattle.std.proofs.Common.{◌≡◌, Some, codes, sym, ap, ◌∙◌, rules, w32}
use Rattle.std.specs.Option.{option_map, unwrap_or}
use Rattle.std.proofs.lemmas.Int.{to_z-of_z}
use Rattle.std.proofs.lemmas.Option.{same_Some}
use Rattle.kind_tables.specs.Scenes.{nothing_of}
use Rattle.kind_tables.specs.SceneObjects.{object_at, scalar_of}
use Rattle.kind_tables.specs.Shapes.{common_radius}
use Rattle.kind_tables.specs.declared.kinds.Kind.{Kind}
use Rattle.kind_tables.specs.declared.kinds.Kind.TheVariants.{FrameDefault, GeometrySphere, GeometryTriangle}
use Rattle.scene_read.proofs.ElementFacts.{other_read, spheres_read, triangles_read}
use Rattle.scene_read.specs.Reading.{object_of}
use Rattle.scene_read.specs.declared.readers.Subject.{Subject}
use Rattle.scene_read.proofs.geometries.shapes.Goals as goal

pub returns-in-GeometryTriangle-clause-value : goal.returns-in-GeometryTriangle-clause-value
returns-in-GeometryTriangle-clause-value g c =
    let kind : option_map (λ o. o.kind) (object_at (g.O.Objects.objects c.args.state.now) c.args.h) ≡ Some GeometryTriangle =
    sym c.kind.ensures ∙ c.in-Some.is ∙ ap (λ (k : Kind). Some k) c.in-GeometryTriangle.is in
    rw (triangles_read (g.O.Objects.objects c.args.state.now) c.args.h c.args.m.now kind, ← c.array-positions.ensures.value, ← c.array-indices.ensures.value, ← c.new-placing.ensures) c.triangles.ensures.value

pub returns-in-GeometrySphere-clause-value : goal.returns-in-GeometrySphere-clause-value
returns-in-GeometrySphere-clause-value g c =
    let kind : option_map (λ o. o.kind) (object_at (g.O.Objects.objects c.args.state.now) c.args.h) ≡ Some GeometrySphere =
    sym c.kind.ensures ∙ c.in-Some.is ∙ ap (λ (k : Kind). Some k) c.in-GeometrySphere.is in
    let common : c.scalar-common.result ≡ common_radius (unwrap_or (object_at (g.O.Objects.objects c.args.state.now) c.args.h) (nothing_of FrameDefault)) =
    c.scalar-common.ensures ∙ ap (λ (s : Subject). scalar_of (object_of (g.O.Objects.objects c.args.state.now) s) (codes "radius")) c.visited.ensures in
    rw (spheres_read (g.O.Objects.objects c.args.state.now) c.args.h c.args.m.now (nothing_of FrameDefault) kind, ← c.array-positions.ensures.value, ← c.array-radii.ensures.value, ← common, ← c.new-placing.ensures)
    (rw (to_z-of_z w32 c.scalar-common.result (search rules)) at c.spheres.ensures.value)

pub returns-in_default-kind-clause-value : goal.returns-in_default-kind-clause-value
returns-in_default-kind-clause-value g c =
    c.new-in_default-kind.ensures.items
    ∙ sym (other_read (g.O.Objects.objects c.args.state.now) c.args.h c.args.m.now
    (λ e. c.in_default-kind.not-GeometryTriangle (same_Some _ _ (sym c.in-Some.is ∙ c.kind.ensures ∙ e)))
    (λ e. c.in_default-kind.not-GeometrySphere (same_Some _ _ (sym c.in-Some.is ∙ c.kind.ensures ∙ e))))
