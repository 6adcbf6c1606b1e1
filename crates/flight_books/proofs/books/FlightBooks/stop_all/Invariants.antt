use Rattle.std.proofs.Common.{◌≡◌}
use Rattle.frame_future.specs.Future.{AreHome}
use Rattle.flight_books.specs.Stops.{AreHalting, NoneFlies}
use Rattle.flight_books.proofs.books.FlightBooks.stop_all.Given as goal

abbrev pub invariant-loop-place : goal.invariant-loop-place
invariant-loop-place g l =
    AreHalting l.fn.self.future.flights l.self.future.flights × NoneFlies {T = g.row.T.Denot} l.place l.self.future l.fn.self.cargo
    × (l.self.future.pictures ≡ l.fn.self.future.pictures) × (l.self.cargo ≡ l.fn.self.cargo) × (l.self.over ≡ l.fn.self.over) × AreHome l.self.future
