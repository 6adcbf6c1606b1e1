use Rattle.std.proofs.Common.{◌++◌, ◌∙◌, Some, None, ap, sym, subst}
use Rattle.std.proofs.lemmas.List.{append-nil}
use Rattle.world_snapshot.proofs.CapturedFacts.{AreShapes, surface_shows, surface_shows_nothing}
use Rattle.world_snapshot.specs.Captured.{primitives_of}
use Rattle.world_snapshot.proofs.rows.push_surface.Goals as goal

pub returns-in_default-2 : goal.returns-in_default-2
returns-in_default-2 g c =
    let objects = g.O.Objects.objects c.args.state.now in
    let material = sym c.live.ensures ∙ c.in-Some.is in
    let geometry = sym c.live-2.ensures ∙ c.in-Some-live.is in
    let none : AreShapes objects c.in-Some-live.geometry None = subst (AreShapes objects c.in-Some-live.geometry) c.in_default-2.is c.in_ok-captured.ensures in
    rw (surface_shows_nothing objects c.args.spot.now c.args.surface c.in-Some.material c.in-Some-live.geometry material geometry none) (sym (append-nil c.args.rows.now.items))

pub returns : goal.returns
returns g c =
    let objects = g.O.Objects.objects c.args.state.now in
    let material = sym c.live.ensures ∙ c.in-Some.is in
    let geometry = sym c.live-2.ensures ∙ c.in-Some-live.is in
    let shapes : AreShapes objects c.in-Some-live.geometry (Some c.in-Some-2.captured) = subst (AreShapes objects c.in-Some-live.geometry) c.in-Some-2.is c.in_ok-captured.ensures in
    let made = c.new-surface.ensures in
    c.in_ok-push_rows.ensures
    ∙ ap (λ xs. c.args.rows.now.items ++ xs)
    (ap primitives_of c.in-Ok.ensures.ok
    ∙ surface_shows objects c.args.spot.now c.args.surface c.in-Some.material c.in-Some-live.geometry c.in-Some-2.captured c.new-surface.result
    material geometry shapes made.spot made.color made.opacity made.object_id made.geometry)
