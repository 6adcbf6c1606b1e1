use Rattle.std.proofs.Common.{◌≡◌, length, drop}
use Rattle.frame_future.specs.Future.{AreHome}
use Rattle.device_parts.specs.Standing.{IsStanding}
use Rattle.device_parts.specs.Works.{AreSpent}
use Rattle.device_parts.proofs.parts.Parts.ask_flights.Given as goal

abbrev pub invariant-loop-place : goal.invariant-loop-place
invariant-loop-place l =
    AreSpent l.place l.fn.self.flights.future.flights l.self.flights.future.flights × (length l.self.flights.future.flights ≡ length l.fn.self.flights.future.flights)
    × (drop l.place l.self.flights.future.flights ≡ drop l.place l.fn.self.flights.future.flights) × (l.self.flights.future.pictures ≡ l.fn.self.flights.future.pictures)
    × (l.self.flights.cargo ≡ l.fn.self.flights.cargo) × (l.self.flights.over ≡ l.fn.self.flights.over) × (l.self ≡ record l.fn.self { flights = l.self.flights })
    × AreHome l.self.flights.future × (IsStanding l.fn.self → IsStanding l.self)
