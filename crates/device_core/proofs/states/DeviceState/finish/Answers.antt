use Rattle.std.proofs.Common.{◌∙◌, ap}
use Rattle.std.specs.List.{slice_get}
use Rattle.std.specs.Option.{option_map}
use Rattle.frame_future.specs.Flights.{Flying, awaited}
use Rattle.device_core.specs.States.{Device}
use Rattle.device_core.proofs.FinishFacts.{first_is, no_look}
use Rattle.device_core.proofs.states.DeviceState.finish.Goals as goal

pub returns-in-Some-clause-open_ : goal.returns-in-Some-clause-open_
returns-in-Some-clause-open_ g c =
    let look = c.in-Some.ensures.look ∙ ap (λ (d : Device). option_map (λ (f : Flying). (f.looked, awaited f)) (slice_get d.parts.flights.future.flights 0)) c.state.view_is in
    let first = first_is c.halt.new.self.parts.flights.future.flights c.in-Some.given c.in-Some.claimed c.halt.ensures.short look in
    (c.halt.ensures.halts, first.0, first.1)

pub returns-in-Some-clause-alone : goal.returns-in-Some-clause-alone
returns-in-Some-clause-alone g c = λ alone.
    let look = c.in-Some.ensures.look ∙ ap (λ (d : Device). option_map (λ (f : Flying). (f.looked, awaited f)) (slice_get d.parts.flights.future.flights 0)) c.state.view_is in
    absurd (no_look c.halt.new.self.parts.flights.future.flights c.in-Some.given c.in-Some.claimed look (c.halt.ensures.alone alone))
