use Rattle.std.proofs.Common.{◌≡◌, ℕ, ap, sym}
use Rattle.kind_tables.specs.Walks.{Spot}
use Rattle.scene_read.proofs.StartFacts.{below_read}
use Rattle.scene_read.proofs.walks.below.Goals as goal

pub returns : goal.returns
returns g c =
    let h : c.visit.inside.handle ≡ c.args.visit.now.1 = ap (λ (v : Spot × ℕ). v.1) c.visit.view_is in
    rw (c.in_ok-push_parameters.ensures, c.in_ok-push_content.ensures, c.new-starts.ensures.items, c.at_parameters_of-spot.ensures, h)
    (sym (below_read (g.O.Objects.objects c.args.state.now) c.args.visit.now.0 c.args.visit.now.1 c.args.kind c.requires))
