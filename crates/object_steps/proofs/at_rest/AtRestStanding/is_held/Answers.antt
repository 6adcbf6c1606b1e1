use Rattle.std.proofs.Common.{◌≡◌, ◌==◌, false, not, subst}
use Rattle.seq_model.specs.Histories.{public}
use Rattle.object_steps.specs.Resting.{Rested}
use Rattle.object_steps.proofs.Standings.{held_gone}
use Rattle.object_steps.proofs.at_rest.AtRestStanding.is_held.Goals as goal

pub returns-in-None : goal.returns-in-None
returns-in-None g c =
    subst (λ (r : Rested). false ≡ not (public r.history c.args.h == 0)) c.self.view_is
    (held_gone c.self.inside.store.now _ c.args.h c.self.invariant.0 c.self.invariant.1 c.in-None.ensures.there)
