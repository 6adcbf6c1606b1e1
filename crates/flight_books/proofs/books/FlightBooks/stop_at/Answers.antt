use Rattle.std.proofs.Common.{◌≡◌, ◌<◌, ◌∙◌, Some, length, sym, ap, subst}
use Rattle.std.proofs.lemmas.Option.{slice_get-get_or}
use Rattle.std.specs.List.{slice_get}
use Rattle.flight_books.specs.Kept.{Books}
use Rattle.flight_books.proofs.books.FlightBooks.stop_at.Goals as goal

pub returns-clause-stopped : goal.returns-clause-stopped
returns-clause-stopped g c =
    let x = c.index.result.now in
    let cs = c.self.inside.cargo.items in
    let within : c.args.place < length cs = subst (λ (v : Books g.row.T.Denot). c.args.place < length v.cargo) (sym c.self.view_is) c.requires.within in
    let there : slice_get cs c.args.place ≡ Some x = slice_get-get_or cs c.args.place x within ∙ ap Some (sym c.index.ensures) in
    record {
      kept = x;
      there = ap (λ (v : Books g.row.T.Denot). slice_get v.cargo c.args.place) (sym c.self.view_is) ∙ there;
      stops = c.stop_flight.ensures.stopped;
      none = c.stop_flight.ensures.none;
      cargo = c.stop_flight.ensures.cargo;
      over = c.stop_flight.ensures.over;
    }
