use Rattle.std.proofs.Common.{◌≡◌, false, refl, sym, subst}
use Rattle.std.specs.Option.{IsSomeAnd}
use Rattle.frame_future.specs.Flights.{Flying, back, IsOfFlight, IsWorked}
use Rattle.frame_future.specs.Future.{flight_at}
use Rattle.flight_books.specs.Kept.{Books}
use Rattle.flight_books.proofs.WorkLaws.{booked_back, books_at}
use Rattle.flight_books.proofs.books.FlightBooks.put_back.Goals as goal

pub invariant_of-self : goal.invariant_of-self
invariant_of-self g c =
    let old : Books g.row.T.Denot = record { future = c.self.inside.frames; cargo = c.self.inside.cargo.items; over = c.self.inside.over.list } in
    let holds : Flying → Type 0 = λ f. (f.home ≡ false) × IsOfFlight f c.args.claims c.args.seat × IsWorked f c.args.seat in
    books_at old c.put_back.new.self c.args.ticket (flight_at old.future c.args.ticket) holds (back c.args.seat) refl
    (subst (λ (v : Books g.row.T.Denot). IsSomeAnd (flight_at v.future c.args.ticket) holds) (sym c.self.view_is) c.requires)
    (λ f k is. booked_back f c.args.seat k is.0 is.2) c.put_back.ensures c.self.invariant
