use Rattle.std.proofs.Common.{◌≡◌, true, false, refl, sym, subst}
use Rattle.std.specs.Option.{IsSomeAnd}
use Rattle.frame_future.specs.Flights.{Flying, away, is_stopped}
use Rattle.frame_future.specs.Future.{flight_at}
use Rattle.flight_books.specs.Kept.{Books}
use Rattle.flight_books.proofs.WorkLaws.{booked_away, books_at}
use Rattle.flight_books.proofs.books.FlightBooks.lend.Goals as goal

pub invariant_of-self : goal.invariant_of-self
invariant_of-self g c =
    let old : Books g.row.T.Denot = record { future = c.self.inside.frames; cargo = c.self.inside.cargo.items; over = c.self.inside.over.list } in
    let holds : Flying → Type 0 = λ f. (f.home ≡ true) × (is_stopped f ≡ false) in
    books_at old c.lend.new.self c.args.ticket (flight_at old.future c.args.ticket) holds away refl
    (subst (λ (v : Books g.row.T.Denot). IsSomeAnd (flight_at v.future c.args.ticket) holds) (sym c.self.view_is) c.requires)
    (λ f k is. booked_away f k is.1) c.lend.ensures.lent c.self.invariant
