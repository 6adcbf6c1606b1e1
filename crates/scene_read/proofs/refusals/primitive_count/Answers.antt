use Rattle.std.proofs.Common.{◌≡◌, ℕ, true, not, codes, sym, ap, ◌∙◌}
use Rattle.std.specs.Option.{is_some}
use Rattle.kind_tables.specs.WalkRefusals.{is_surface}
use Rattle.kind_tables.specs.Walks.{Spot}
use Rattle.scene_read.proofs.ShownFacts.{surface_counted}
use Rattle.scene_read.specs.Shown.{live_in}
use Rattle.scene_read.specs.Starts.{visited_object}
use Rattle.scene_read.proofs.refusals.primitive_count.Goals as goal

pub returns-in-Some-clause-value : goal.returns-in-Some-clause-value
returns-in-Some-clause-value g c =
    let h : c.visit.inside.handle ≡ c.args.visit.now.1 = ap (λ (v : Spot × ℕ). v.1) c.visit.view_is in
    let surface : is_surface (visited_object (g.O.Objects.objects c.args.state.now) c.args.visit.now.1).kind ≡ true = sym c.is_surface.ensures ∙ c.if-not-is_surface.false in
    let material : is_some (live_in (g.O.Objects.objects c.args.state.now) c.args.visit.now.1 (codes "material")) ≡ true =
    ap is_some (sym (rw h at c.live.ensures)) ∙ c.is_none.ensures ∙ ap not c.if-is_none.false in
    surface_counted (g.O.Objects.objects c.args.state.now) c.args.visit.now c.in-Some.geometry c.shape_count.result surface material
    (sym (rw h at c.live-2.ensures) ∙ c.in-Some.is) (c.shape_count.ensures.value c.args.visit.now.0.transform)
