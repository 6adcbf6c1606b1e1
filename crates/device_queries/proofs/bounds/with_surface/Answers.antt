use Rattle.std.proofs.Common.{◌≡◌, ap, sym, ◌∙◌}
use Rattle.kind_tables.specs.Walks.{Spot}
use Rattle.device_queries.proofs.Widened.{with_both, without_geometry, without_material}
use Rattle.device_queries.proofs.bounds.with_surface.Goals as goal

pub returns-in_default : goal.returns-in_default
returns-in_default g c =
    without_material (g.O.Objects.objects c.args.state.now) c.args.spot.now c.args.surface c.args.extent (sym c.live.ensures ∙ c.in_default.is)

pub returns-in_default-live : goal.returns-in_default-live
returns-in_default-live g c =
    without_geometry (g.O.Objects.objects c.args.state.now) c.args.spot.now c.args.surface c.args.extent (sym c.live-2.ensures ∙ c.in_default-live.is)

pub returns : goal.returns
returns g c =
    let m : c.spot.inside.transform ≡ c.args.spot.now.transform = ap (λ (s : Spot). s.transform) c.spot.view_is in
    (rw m at c.with_geometry.ensures)
    ∙ with_both (g.O.Objects.objects c.args.state.now) c.args.spot.now c.args.surface c.in-Some._material c.in-Some-live.geometry c.args.extent
    (sym c.live.ensures ∙ c.in-Some.is) (sym c.live-2.ensures ∙ c.in-Some-live.is)
