use Rattle.std.proofs.Common.{length, ap, arith}
use Rattle.flight_books.specs.Kept.{Books}
use Rattle.flight_books.proofs.WorkLaws.{count_of}
use Rattle.flight_books.proofs.books.FlightBooks.flight_count.Goals as goal

pub returns : goal.returns
returns g c =
    let cargo = count_of c.self.inside.frames.flights c.self.inside.cargo.items c.self.invariant.cargo in
    let flights = ap (λ (v : Books g.row.T.Denot). length v.future.flights) c.self.view_is in
    omega (arith, cargo, flights, c.len.ensures)
