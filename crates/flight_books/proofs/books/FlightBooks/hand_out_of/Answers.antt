use Rattle.std.proofs.Common.{◌≡◌, true, IfSome, refl, sym, subst}
use Rattle.std.specs.Option.{IsSomeAnd}
use Rattle.frame_future.specs.Flights.{Flying}
use Rattle.frame_future.specs.Future.{flight_at, with_flight_at, AreHome, IsHandout}
use Rattle.flight_books.specs.Kept.{Books, with_future}
use Rattle.flight_books.proofs.HandLaws.{books_handed, handed_seen, home_handed}
use Rattle.flight_books.proofs.books.FlightBooks.hand_out_of.Goals as goal

pub invariant_of-self : goal.invariant_of-self
invariant_of-self g c =
    let old : Books g.row.T.Denot = record { future = c.self.inside.frames; cargo = c.self.inside.cargo.items; over = c.self.inside.over.list } in
    books_handed old c.hand_out.new.self c.args.ticket c.hand_out.result (flight_at old.future c.args.ticket) refl
    (subst (λ (v : Books g.row.T.Denot). IsSomeAnd (flight_at v.future c.args.ticket) (λ (f : Flying). f.home ≡ true)) (sym c.self.view_is) c.requires) c.hand_out.ensures c.self.invariant

pub returns-clause-handed : goal.returns-clause-handed
returns-clause-handed g c =
    let old : Books g.row.T.Denot = record { future = c.self.inside.frames; cargo = c.self.inside.cargo.items; over = c.self.inside.over.list } in
    let new = c.hand_out.new.self in
    subst (λ (v : Books g.row.T.Denot). IfSome (flight_at v.future c.args.ticket) (λ (f : Flying). (h : Flying) × IsHandout f h c.hand_out.result × (with_future old new ≡ with_future v (with_flight_at v.future c.args.ticket h))))
    c.self.view_is (handed_seen old new c.args.ticket c.hand_out.result (flight_at old.future c.args.ticket) c.hand_out.ensures)

pub returns-clause-home : goal.returns-clause-home
returns-clause-home g c = λ home.
    let s = c.self.inside.frames in
    home_handed s c.hand_out.new.self c.args.ticket c.hand_out.result (flight_at s c.args.ticket) refl
    (subst (λ (v : Books g.row.T.Denot). IsSomeAnd (flight_at v.future c.args.ticket) (λ (f : Flying). f.home ≡ true)) (sym c.self.view_is) c.requires) c.hand_out.ensures
    (subst (λ (v : Books g.row.T.Denot). AreHome v.future) (sym c.self.view_is) home)
