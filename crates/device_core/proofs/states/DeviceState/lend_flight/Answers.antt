use Rattle.std.proofs.Common.{◌∙◌, sym}
use Rattle.device_core.specs.States.{Device}
use Rattle.device_core.proofs.KeepFacts.{kept_device, kept_loans, lent_keeps}
use Rattle.device_core.proofs.states.DeviceState.lend_flight.Goals as goal

pub invariant_of-self : goal.invariant_of-self
invariant_of-self g c =
    let d : Device = record { parts = c.self.inside.parts; told = g.C.Client.notices c.self.inside.client; spare = g.C.Client.spare c.self.inside.client; limit = c.self.inside.limit; ending = c.self.inside.ending } in
    let kept = lent_keeps c.lend_flight.result c.args.h c.self.inside.parts c.lend_flight.new.self c.lend_flight.ensures.lent c.lend_flight.ensures.same in
    (kept_device d c.lend_flight.new.self c.self.invariant.0 kept c.lend_flight.ensures.stands, c.self.invariant.1 ∙ sym (kept_loans c.self.inside.parts c.lend_flight.new.self kept))
