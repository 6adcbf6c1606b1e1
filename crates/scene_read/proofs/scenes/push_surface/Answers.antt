use Rattle.std.proofs.Common.{◌≡◌, codes, sym, ap, ◌∙◌}
use Rattle.std.proofs.lemmas.List.{append-nil}
use Rattle.kind_tables.specs.Shapes.{shapes_of}
use Rattle.kind_tables.specs.Walks.{Spot}
use Rattle.scene_read.proofs.ShownFacts.{live_shapes, no_geometry, no_material, surface_read}
use Rattle.scene_read.specs.Starts.{visited_object}
use Rattle.scene_read.proofs.scenes.push_surface.Goals as goal

pub returns-in_default : goal.returns-in_default
returns-in_default g c =
    rw (no_material (g.O.Objects.objects c.args.state.now) c.args.spot.now c.args.surface (sym c.live.ensures ∙ c.in_default.is)) (sym (append-nil c.args.primitives.now.items))

pub returns-in_default-live : goal.returns-in_default-live
returns-in_default-live g c =
    rw (no_geometry (g.O.Objects.objects c.args.state.now) c.args.spot.now c.args.surface (sym c.live-2.ensures ∙ c.in_default-live.is)) (sym (append-nil c.args.primitives.now.items))

pub returns : goal.returns
returns g c =
    let m : c.spot.inside.transform ≡ c.args.spot.now.transform = ap (λ (s : Spot). s.transform) c.spot.view_is in
    let drawn : c.deref.result.now ≡ shapes_of (g.O.Objects.objects c.args.state.now) (visited_object (g.O.Objects.objects c.args.state.now) c.in-Some-live.geometry) c.args.spot.now.transform =
    c.deref.ensures.value ∙ (rw m at c.in_ok-shapes.ensures.value)
    ∙ live_shapes (g.O.Objects.objects c.args.state.now) c.args.spot.now c.args.surface c.in-Some-live.geometry (codes "geometry") (sym c.live-2.ensures ∙ c.in-Some-live.is) in
    rw (surface_read (g.O.Objects.objects c.args.state.now) c.args.spot.now c.args.surface c.in-Some.material c.in-Some-live.geometry (sym c.live.ensures ∙ c.in-Some.is) (sym c.live-2.ensures ∙ c.in-Some-live.is), ← drawn, ← c.finish_of-finish.ensures)
    c.push_shapes.ensures
