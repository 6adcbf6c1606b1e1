use Rattle.std.proofs.Common.{◌∙◌, ap, subst, sym}
use Rattle.device_parts.specs.AllParts.{Inside}
use Rattle.device_parts.specs.Lends.{IsLentFlight}
use Rattle.device_core.specs.States.{Device}
use Rattle.device_core.proofs.KeepFacts.{kept_device, kept_loans, returned_keeps}
use Rattle.device_core.proofs.states.DeviceState.return_flight.Goals as goal

pub invariant_of-self : goal.invariant_of-self
invariant_of-self g c =
    let d : Device = record { parts = c.self.inside.parts; told = g.C.Client.notices c.self.inside.client; spare = g.C.Client.spare c.self.inside.client; limit = c.self.inside.limit; ending = c.self.inside.ending } in
    let lent = subst (λ (i : Inside). IsLentFlight i c.args.work) (sym (ap (λ (d : Device). d.parts) c.self.view_is)) c.requires in
    let kept = returned_keeps c.self.inside.parts c.return_flight.new.self c.args.work lent c.return_flight.ensures.returned in
    (kept_device d c.return_flight.new.self c.self.invariant.0 kept c.return_flight.ensures.stands, c.self.invariant.1 ∙ sym (kept_loans c.self.inside.parts c.return_flight.new.self kept))
