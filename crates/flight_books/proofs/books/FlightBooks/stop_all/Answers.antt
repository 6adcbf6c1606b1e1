use Rattle.std.proofs.Common.{◌∙◌, length, arith, ap, refl, subst}
use Rattle.flight_books.specs.Kept.{Books, AreBooked}
use Rattle.flight_books.proofs.StopLaws.{all_stopped, none_halting, one_stopped}
use Rattle.flight_books.proofs.books.FlightBooks.stop_all.Goals as goal

pub loop-place-init : goal.loop-place-init
loop-place-init g c = (none_halting c.args.self.now.future.flights, λ k d l. absurd (omega (arith, l)), refl, refl, refl, c.requires.home)

pub loop-place-preserved : goal.loop-place-preserved
loop-place-preserved g c =
    let before = c.loop-place.invariant in
    let at = c.stop_at.ensures.stopped in
    let more = one_stopped c.args.self.now c.loop-place.self c.stop_at.new.self c.loop-place.place before.0 before.1 before.2 before.3 at in
    (more.0, more.1, more.2, at.cargo ∙ before.3, at.over ∙ before.4, c.stop_at.ensures.home)

pub returns-clause-stopped : goal.returns-clause-stopped
returns-clause-stopped g c =
    let before = c.loop-place.invariant in
    let old = c.args.self.now in
    let count = ap (λ (v : Books g.row.T.Denot). length v.cargo) c.self.view_is in
    let booked = subst (λ (v : Books g.row.T.Denot). AreBooked v.future.flights v.cargo) c.self.view_is c.self.invariant.cargo in
    all_stopped old c.loop-place.self booked before.0
    (λ k d l. before.1 k d (omega (arith, l, count, c.len-place-end.ensures, c.loop-place-test.false, c.loop-place.auto.place-end))) before.2 before.3 before.4
