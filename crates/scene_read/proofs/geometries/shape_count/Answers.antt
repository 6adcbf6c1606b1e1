use Rattle.std.proofs.Common.{◌≡◌, Some, sym, ap, ◌∙◌, arith}
use Rattle.std.specs.Option.{option_map}
use Rattle.std.proofs.lemmas.Option.{same_Some}
use Rattle.kind_tables.specs.SceneObjects.{object_at}
use Rattle.kind_tables.specs.declared.kinds.Kind.{Kind}
use Rattle.kind_tables.specs.declared.kinds.Kind.TheVariants.{GeometrySphere, GeometryTriangle}
use Rattle.scene_read.proofs.ElementFacts.{others_counted, spheres_counted, triangles_counted}
use Rattle.scene_read.proofs.geometries.shape_count.Goals as goal

pub returns-in-GeometryTriangle-clause-value : goal.returns-in-GeometryTriangle-clause-value
returns-in-GeometryTriangle-clause-value g c =
    let kind : option_map (λ o. o.kind) (object_at (g.O.Objects.objects c.args.state.now) c.args.h) ≡ Some GeometryTriangle =
    sym c.kind.ensures ∙ c.in-Some.is ∙ ap (λ (k : Kind). Some k) c.in-GeometryTriangle.is in
    λ m.
    rw (triangles_counted (g.O.Objects.objects c.args.state.now) c.args.h m kind, ← c.array-positions.ensures.value, ← c.array-indices.ensures.value) c.triangle_count.ensures.value

pub returns-in-GeometrySphere-clause-value : goal.returns-in-GeometrySphere-clause-value
returns-in-GeometrySphere-clause-value g c =
    let kind : option_map (λ o. o.kind) (object_at (g.O.Objects.objects c.args.state.now) c.args.h) ≡ Some GeometrySphere =
    sym c.kind.ensures ∙ c.in-Some.is ∙ ap (λ (k : Kind). Some k) c.in-GeometrySphere.is in
    λ m.
    rw (spheres_counted (g.O.Objects.objects c.args.state.now) c.args.h m kind, ← c.array-positions.ensures.value) c.count_in.ensures.value

pub returns-in_default-kind : goal.returns-in_default-kind
returns-in_default-kind g c = record {
  value = λ m.
      sym (others_counted (g.O.Objects.objects c.args.state.now) c.args.h m
      (λ e. c.in_default-kind.not-GeometryTriangle (same_Some _ _ (sym c.in-Some.is ∙ c.kind.ensures ∙ e)))
      (λ e. c.in_default-kind.not-GeometrySphere (same_Some _ _ (sym c.in-Some.is ∙ c.kind.ensures ∙ e))));
  size = omega arith;
}
