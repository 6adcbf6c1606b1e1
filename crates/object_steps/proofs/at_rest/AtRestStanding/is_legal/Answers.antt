use Rattle.std.proofs.Common.{◌≡◌, subst}
use Rattle.seq_model.specs.Steps.{after}
use Rattle.object_steps.specs.Resting.{Rested, past_of}
use Rattle.object_steps.proofs.Standings.{led}
use Rattle.object_steps.proofs.at_rest.AtRestStanding.is_legal.Goals as goal

pub returns-clause-led : goal.returns-clause-led
returns-clause-led g c = subst (λ (r : Rested). past_of r ≡ after r.history) c.self.view_is (led c.self.inside.store.now _ c.self.invariant.0)
