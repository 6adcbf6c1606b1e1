use Rattle.std.proofs.Common.{subst}
use Rattle.flight_books.specs.Kept.{AreBooks}
use Rattle.device_core.specs.States.{Device}
use Rattle.device_core.proofs.FinishFacts.{none_left}
use Rattle.device_core.proofs.states.DeviceState.halt.Goals as goal

pub returns-clause-alone : goal.returns-clause-alone
returns-clause-alone g c =
    none_left c.args.self.now.parts c.sweep.new.self.parts c.stop_all.new.self.parts c.sweep-2.new.self.parts
    c.sweep.ensures.swept.parts c.stop_all.ensures.stops (subst (λ (d : Device). AreBooks d.parts.flights) c.self.view_is c.flights_are_booked.ensures.books)
    c.sweep-2.ensures.swept.parts
