use Rattle.std.proofs.Common.{ap, ◌∙◌}
use Rattle.scene_read.proofs.StartFacts.{walk_is, walk_seen_again}
use Rattle.scene_read.specs.Starts.{all_seen}
use Rattle.scene_read.proofs.walks.visits_from.Goals as goal

pub returns-clause-starts : goal.returns-clause-starts
returns-clause-starts g c =
    rw (c.new.ensures, c.in_ok-push_walk.ensures, c.new-visits.ensures.items) (walk_is (g.O.Objects.objects c.args.state.now) c.args.root)

pub returns-clause-seen : goal.returns-clause-seen
returns-clause-seen g c =
    rw (c.new.ensures, c.in_ok-push_walk.ensures, c.new-visits.ensures.items)
    (ap (all_seen (g.O.Objects.objects c.args.state.now)) (walk_is (g.O.Objects.objects c.args.state.now) c.args.root)
    ∙ walk_seen_again (g.O.Objects.objects c.args.state.now) c.args.root)
