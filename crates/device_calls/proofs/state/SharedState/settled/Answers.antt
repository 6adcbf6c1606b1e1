use Rattle.std.proofs.Common.{◌∙◌, ap, subst}
use Rattle.device_core.specs.States.{Device}
use Rattle.device_calls.specs.Holds.{AddsNotes}
use Rattle.device_calls.specs.Sharing.{given_of}
use Rattle.device_calls.proofs.HoldFacts.{given_stays, sweep_adds}
use Rattle.device_calls.proofs.state.SharedState.settled.Goals as goal

pub returns-clause-noted : goal.returns-clause-noted
returns-clause-noted g c =
    let new = c.settled-settled.new.self in
    subst (λ (old : Device). AddsNotes old.parts.history new.parts.history) c.self.view_is (sweep_adds c.self.inside.device new c.settled-settled.ensures.swept)

pub returns-clause-given : goal.returns-clause-given
returns-clause-given g c =
    let swept = c.settled-settled.ensures.swept in
    given_stays c.self.inside.device c.settled-settled.new.self c.self.invariant swept.told swept.limit ∙ ap given_of c.self.view_is
