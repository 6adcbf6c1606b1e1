use Rattle.std.proofs.Common.{◌∙◌, ap, subst}
use Rattle.device_core.specs.States.{Device}
use Rattle.device_calls.specs.Holds.{AddsNotes}
use Rattle.device_calls.specs.Sharing.{given_of}
use Rattle.device_calls.proofs.HoldFacts.{given_stays}
use Rattle.device_calls.proofs.WorkFacts.{works_add, works_handout, works_limit, works_tell}
use Rattle.device_calls.proofs.state.SharedState.take_work.Goals as goal

pub returns-clause-noted : goal.returns-clause-noted
returns-clause-noted g c =
    let new = c.take_work-taken.new.self in
    subst (λ (old : Device). AddsNotes old.parts.history new.parts.history) c.self.view_is
    (works_add c.take_work-taken.result c.self.inside.device new c.take_work-taken.ensures.works)

pub returns-clause-work : goal.returns-clause-work
returns-clause-work g c =
    works_handout c.take_work-taken.result c.self.inside.device c.take_work-taken.new.self c.is_device.ensures.parts c.take_work-taken.ensures.works

pub returns-clause-given : goal.returns-clause-given
returns-clause-given g c =
    let old = c.self.inside.device in
    let new = c.take_work-taken.new.self in
    given_stays old new c.self.invariant (works_tell c.take_work-taken.result old new c.take_work-taken.ensures.works)
    (works_limit c.take_work-taken.result old new c.take_work-taken.ensures.works) ∙ ap given_of c.self.view_is
