use Rattle.std.proofs.Common.{◌≡◌, ◌∙◌, List, None, Some, sym, ap, subst}
use Rattle.std.specs.List.{position}
use Rattle.frame_future.proofs.Lists.{found_none}
use Rattle.flight_books.specs.declared.kept.Cargo.{Cargo}
use Rattle.flight_books.specs.Kept.{Books, cargo_at, is_of}
use Rattle.flight_books.proofs.CargoLaws.{taken_out}
use Rattle.flight_books.proofs.books.FlightBooks.cargo_at.Goals as goal

pub returns-in-Some : goal.returns-in-Some
returns-in-Some g c =
    let cs = c.self.inside.cargo.items in
    let at = subst (λ (xs : List (Cargo g.row.T.Denot)). position (is_of c.args.ticket) xs ≡ Some c.in-Some.place) c.deref.ensures.value (sym c.found.ensures ∙ c.in-Some.is) in
    let out = taken_out c.args.ticket cs c.in-Some.place c.index.result.now at c.index.ensures in
    sym out.1 ∙ ap (λ (v : Books g.row.T.Denot). cargo_at v.cargo c.args.ticket) c.self.view_is

pub returns-in-None : goal.returns-in-None
returns-in-None g c =
    let cs = c.self.inside.cargo.items in
    let none = subst (λ (xs : List (Cargo g.row.T.Denot)). position (is_of c.args.ticket) xs ≡ None) c.deref.ensures.value (sym c.found.ensures ∙ c.in-None.is) in
    sym (found_none (is_of c.args.ticket) cs none) ∙ ap (λ (v : Books g.row.T.Denot). cargo_at v.cargo c.args.ticket) c.self.view_is
