use Rattle.std.proofs.Common.{◌≡◌, ◌<◌, ◌∙◌, length, arith, ap, sym}
use Rattle.std.specs.List.{slice_get}
use Rattle.std.specs.Option.{option_map}
use Rattle.frame_future.specs.Flights.{Flying}
use Rattle.flight_books.specs.Kept.{Books}
use Rattle.flight_books.proofs.WorkLaws.{first_is, no_first}
use Rattle.flight_books.proofs.books.FlightBooks.first_ticket.Goals as goal

pub returns-then-is_empty : goal.returns-then-is_empty
returns-then-is_empty g c =
    let empty = sym c.if-is_empty.true ∙ c.is_empty.ensures in
    let none : length c.self.inside.cargo.items ≡ 0 = grind (arith, empty) in
    no_first c.self.inside.frames.flights c.self.inside.cargo.items c.self.invariant.cargo none
    ∙ ap (λ (v : Books g.row.T.Denot). option_map (λ (f : Flying). f.ticket) (slice_get v.future.flights 0)) c.self.view_is

pub returns-else-is_empty : goal.returns-else-is_empty
returns-else-is_empty g c =
    let full = sym c.if-is_empty.false ∙ c.is_empty.ensures in
    let some : 0 < length c.self.inside.cargo.items = grind (arith, full) in
    first_is c.self.inside.frames.flights c.self.inside.cargo.items c.index.result.now c.self.invariant.cargo some c.index.ensures
    ∙ ap (λ (v : Books g.row.T.Denot). option_map (λ (f : Flying). f.ticket) (slice_get v.future.flights 0)) c.self.view_is
