use Rattle.std.proofs.Common.{◌≡◌, true, IfSome, refl, sym, subst}
use Rattle.std.specs.Option.{IsSomeAnd}
use Rattle.frame_future.specs.Flights.{Flying}
use Rattle.frame_future.specs.Future.{flight_at, with_flight_at, AreHome, IsCount}
use Rattle.flight_books.specs.Kept.{Books, with_future}
use Rattle.flight_books.proofs.WorkLaws.{books_counted, counted_seen, home_counted}
use Rattle.flight_books.proofs.books.FlightBooks.claimed.Goals as goal

pub invariant_of-self : goal.invariant_of-self
invariant_of-self g c =
    let old : Books g.row.T.Denot = record { future = c.self.inside.frames; cargo = c.self.inside.cargo.items; over = c.self.inside.over.list } in
    books_counted old c.claimed.new.self c.args.ticket c.claimed.result (flight_at old.future c.args.ticket) refl
    (subst (λ (v : Books g.row.T.Denot). IsSomeAnd (flight_at v.future c.args.ticket) (λ (f : Flying). f.home ≡ true)) (sym c.self.view_is) c.requires) c.claimed.ensures c.self.invariant

pub returns-clause-counted : goal.returns-clause-counted
returns-clause-counted g c =
    let old : Books g.row.T.Denot = record { future = c.self.inside.frames; cargo = c.self.inside.cargo.items; over = c.self.inside.over.list } in
    let new = c.claimed.new.self in
    subst (λ (v : Books g.row.T.Denot). IfSome (flight_at v.future c.args.ticket) (λ (f : Flying). (h : Flying) × IsCount f h c.claimed.result × (with_future old new ≡ with_future v (with_flight_at v.future c.args.ticket h))))
    c.self.view_is (counted_seen old new c.args.ticket c.claimed.result (flight_at old.future c.args.ticket) c.claimed.ensures)

pub returns-clause-home : goal.returns-clause-home
returns-clause-home g c = λ home.
    let s = c.self.inside.frames in
    home_counted s c.claimed.new.self c.args.ticket c.claimed.result (flight_at s c.args.ticket) refl
    (subst (λ (v : Books g.row.T.Denot). IsSomeAnd (flight_at v.future c.args.ticket) (λ (f : Flying). f.home ≡ true)) (sym c.self.view_is) c.requires) c.claimed.ensures
    (subst (λ (v : Books g.row.T.Denot). AreHome v.future) (sym c.self.view_is) home)
