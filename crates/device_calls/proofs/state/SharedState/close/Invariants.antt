use Rattle.device_core.specs.Sweeping.{TellsOn}
use Rattle.device_calls.specs.Holds.{AddsNotes}
use Rattle.frame_future.specs.Future.{AreHome}
use Rattle.device_calls.proofs.state.SharedState.close.Given as goal

abbrev pub invariant-loop : goal.invariant-loop
invariant-loop g l =
    (goal.iterator-loop g).can_next l.iterator' × (goal.iterator-loop g).is_finite l.iterator'
    × AreHome l.device.parts.flights.future × AddsNotes l.fn.self.parts.history l.device.parts.history × TellsOn l.fn.self l.device
