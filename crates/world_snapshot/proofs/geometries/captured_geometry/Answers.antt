use Rattle.std.proofs.Common.{◌≡◌, Some, codes, map, sym, ap, ◌∙◌, rules, w32, to_z, of_z}
use Rattle.std.specs.List.{range_with_len}
use Rattle.std.specs.Option.{option_map, unwrap_or}
use Rattle.std.proofs.lemmas.Int.{to_z-of_z}
use Rattle.std.proofs.lemmas.Option.{same_Some}
use Rattle.kind_tables.specs.SceneObjects.{object_at, scalar_of}
use Rattle.kind_tables.specs.Scenes.{nothing_of}
use Rattle.kind_tables.specs.Shapes.{common_radius}
use Rattle.kind_tables.specs.declared.kinds.Kind.{Kind}
use Rattle.kind_tables.specs.declared.kinds.Kind.TheVariants.{FrameDefault, GeometrySphere, GeometryTriangle}
use Rattle.scene_read.proofs.ElementFacts.{other_read, spheres_read, triangles_read}
use Rattle.scene_read.specs.Reading.{object_of}
use Rattle.scene_read.specs.declared.readers.Subject.{Subject}
use Rattle.scene_read.specs.Shaped.{count_in, sphere_at, triangle_at, triangle_count}
use Rattle.world_snapshot.proofs.geometries.captured_geometry.Goals as goal

pub returns-in_ok-captured_array-in-GeometryTriangle-2 : goal.returns-in_ok-captured_array-in-GeometryTriangle-2
returns-in_ok-captured_array-in-GeometryTriangle-2 g c =
    let objects = g.O.Objects.objects c.args.state.now in
    let kind : option_map (λ o. o.kind) (object_at objects c.args.h) ≡ Some GeometryTriangle =
    sym c.kind.ensures ∙ c.in-Some.is ∙ ap (λ (k : Kind). Some k) c.in-GeometryTriangle.is in
    let positions = c.in_ok-captured_array-in-GeometryTriangle.ensures in
    let indices = c.in_ok-captured_array-in-GeometryTriangle-2.ensures in
    λ m. (λ i. map (triangle_at m (positions i) (indices i)) (range_with_len 0 (triangle_count (indices i) (positions i)))) ∙ sym (triangles_read objects c.args.h m kind)

pub returns-in_ok-captured_array-in-GeometrySphere-2 : goal.returns-in_ok-captured_array-in-GeometrySphere-2
returns-in_ok-captured_array-in-GeometrySphere-2 g c =
    let objects = g.O.Objects.objects c.args.state.now in
    let kind : option_map (λ o. o.kind) (object_at objects c.args.h) ≡ Some GeometrySphere =
    sym c.kind.ensures ∙ c.in-Some.is ∙ ap (λ (k : Kind). Some k) c.in-GeometrySphere.is in
    let positions = c.in_ok-captured_array-in-GeometrySphere.ensures in
    let radii = c.in_ok-captured_array-in-GeometrySphere-2.ensures in
    let radius : to_z w32 (of_z w32 c.scalar.result) ≡ common_radius (unwrap_or (object_at objects c.args.h) (nothing_of FrameDefault)) =
    to_z-of_z w32 c.scalar.result (search rules) ∙ c.scalar.ensures
    ∙ ap (λ (s : Subject). scalar_of (object_of objects s) (codes "radius")) c.visited.ensures in
    λ m.
    (λ i. map (sphere_at m (positions i) (radii i) (radius i)) (range_with_len 0 (count_in (positions i))))
    ∙ sym (spheres_read objects c.args.h m (nothing_of FrameDefault) kind)

pub returns-in_default-kind : goal.returns-in_default-kind
returns-in_default-kind g c = λ m.
    sym (other_read (g.O.Objects.objects c.args.state.now) c.args.h m
    (λ e. c.in_default-kind.not-GeometryTriangle (same_Some _ _ (sym c.in-Some.is ∙ c.kind.ensures ∙ e)))
    (λ e. c.in_default-kind.not-GeometrySphere (same_Some _ _ (sym c.in-Some.is ∙ c.kind.ensures ∙ e))))
