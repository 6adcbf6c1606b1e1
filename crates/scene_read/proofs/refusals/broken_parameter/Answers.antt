use Rattle.std.proofs.Common.{◌≡◌, ℕ, sym, ap, ◌∙◌}
use Rattle.kind_tables.specs.Walks.{Spot}
use Rattle.scene_read.proofs.RefusalFacts.{broken_first, broken_next}
use Rattle.scene_read.specs.Reading.{object_of}
use Rattle.scene_read.specs.Starts.{visited_object}
use Rattle.scene_read.specs.declared.readers.Subject.{Subject}
use Rattle.scene_read.proofs.refusals.broken_parameter.Goals as goal

pub returns-then-is_some : goal.returns-then-is_some
returns-then-is_some g c =
    let h : c.visit.inside.handle ≡ c.args.visit.now.1 = ap (λ (v : Spot × ℕ). v.1) c.visit.view_is in
    let kind : c.kind-kind.result ≡ (visited_object (g.O.Objects.objects c.args.state.now) c.args.visit.now.1).kind =
    c.kind-kind.ensures ∙ ap (λ (s : Subject). (object_of (g.O.Objects.objects c.args.state.now) s).kind) c.visited.ensures
    ∙ ap (λ h. (visited_object (g.O.Objects.objects c.args.state.now) h).kind) h in
    let transform : c.spot.inside.transform ≡ c.args.visit.now.0.transform = ap (λ (s : Spot). s.transform) c.spot.view_is ∙ ap (λ (v : Spot × ℕ). v.0.transform) c.visit.view_is in
    broken_first (g.O.Objects.objects c.args.state.now) c.args.visit.now c.visit.inside.handle c.kind-kind.result c.spot.inside.transform c.broken_value-broken.result h kind transform
    c.broken_value-broken.ensures (sym c.is_some.ensures ∙ c.if-is_some.true)

pub returns : goal.returns
returns g c =
    let h : c.visit.inside.handle ≡ c.args.visit.now.1 = ap (λ (v : Spot × ℕ). v.1) c.visit.view_is in
    let kind : c.kind-kind.result ≡ (visited_object (g.O.Objects.objects c.args.state.now) c.args.visit.now.1).kind =
    c.kind-kind.ensures ∙ ap (λ (s : Subject). (object_of (g.O.Objects.objects c.args.state.now) s).kind) c.visited.ensures
    ∙ ap (λ h. (visited_object (g.O.Objects.objects c.args.state.now) h).kind) h in
    let transform : c.spot.inside.transform ≡ c.args.visit.now.0.transform = ap (λ (s : Spot). s.transform) c.spot.view_is ∙ ap (λ (v : Spot × ℕ). v.0.transform) c.visit.view_is in
    broken_next (g.O.Objects.objects c.args.state.now) c.args.visit.now c.visit.inside.handle c.kind-kind.result c.spot.inside.transform c.broken_value-broken.result c.broken_geometry.result h kind transform
    c.broken_value-broken.ensures (sym c.is_some.ensures ∙ c.if-is_some.false) c.broken_geometry.ensures
