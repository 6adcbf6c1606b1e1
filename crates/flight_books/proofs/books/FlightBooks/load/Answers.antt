use Rattle.std.proofs.Common.{◌≡◌, ◌∙◌, IsSome, List, None, Option, Some, sym, ap, subst, true≢false}
use Rattle.std.specs.List.{position}
use Rattle.frame_future.proofs.Finds.{if_some}
use Rattle.frame_future.proofs.Lists.{found_none}
use Rattle.flight_books.specs.declared.kept.Cargo.{Cargo}
use Rattle.flight_books.specs.Kept.{AreBooks, Books, cargo_at, is_of, with_kept}
use Rattle.flight_books.proofs.CargoLaws.{taken_out}
use Rattle.flight_books.proofs.WorkLaws.{books_reloaded, reloaded_here}
use Rattle.flight_books.proofs.books.FlightBooks.load.Goals as goal

pub place_of-place-requires : goal.place_of-place-requires
place_of-place-requires g c = λ none.
    let here = subst (λ (xs : List (Cargo g.row.T.Denot)). position (is_of c.args.ticket) xs ≡ None) c.deref.ensures.value none in
    let gone = sym (ap (λ (v : Books g.row.T.Denot). cargo_at v.cargo c.args.ticket) c.self.view_is) ∙ found_none (is_of c.args.ticket) c.self.inside.cargo.items here in
    true≢false (sym (subst (λ (o : Option (Cargo g.row.T.Denot)). IsSome o) gone c.requires))

pub invariant_of-self : goal.invariant_of-self
invariant_of-self g c =
    let at = subst (λ (xs : List (Cargo g.row.T.Denot)). position (is_of c.args.ticket) xs ≡ Some c.place_of-place.result) c.deref.ensures.value c.place_of-place.ensures in
    let x = c.index_mut.result.now in
    let items = reloaded_here c.args.ticket c.args.kept c.self.inside.cargo.items c.place_of-place.result x (record x { kept = c.replace.new.dest }) at c.index_mut.ensures.value
    (ap (λ (k : g.row.T.Denot). record x { kept = k }) c.replace.ensures.after) in
    let old : Books g.row.T.Denot = record { future = c.self.inside.frames; cargo = c.self.inside.cargo.items; over = c.self.inside.over.list } in
    subst (λ (xs : List (Cargo g.row.T.Denot)). AreBooks (record old { cargo = xs })) (sym items) (books_reloaded old c.args.ticket c.args.kept c.self.invariant)

pub returns-clause-was : goal.returns-clause-was
returns-clause-was g c =
    let at = subst (λ (xs : List (Cargo g.row.T.Denot)). position (is_of c.args.ticket) xs ≡ Some c.place_of-place.result) c.deref.ensures.value c.place_of-place.ensures in
    let x = c.index_mut.result.now in
    let out = taken_out c.args.ticket c.self.inside.cargo.items c.place_of-place.result x at c.index_mut.ensures.value in
    let is = sym (ap (λ (v : Books g.row.T.Denot). cargo_at v.cargo c.args.ticket) c.self.view_is) ∙ out.1 in
    if_some (λ (k : Cargo g.row.T.Denot). c.replace.result ≡ k.kept) (cargo_at c.args.self.now.cargo c.args.ticket) x is c.replace.ensures.value

pub returns-clause-kept : goal.returns-clause-kept
returns-clause-kept g c =
    let at = subst (λ (xs : List (Cargo g.row.T.Denot)). position (is_of c.args.ticket) xs ≡ Some c.place_of-place.result) c.deref.ensures.value c.place_of-place.ensures in
    let x = c.index_mut.result.now in
    let items = reloaded_here c.args.ticket c.args.kept c.self.inside.cargo.items c.place_of-place.result x (record x { kept = c.replace.new.dest }) at c.index_mut.ensures.value
    (ap (λ (k : g.row.T.Denot). record x { kept = k }) c.replace.ensures.after) in
    let old : Books g.row.T.Denot = record { future = c.self.inside.frames; cargo = c.self.inside.cargo.items; over = c.self.inside.over.list } in
    ap (λ (xs : List (Cargo g.row.T.Denot)). record old { cargo = xs }) items ∙ ap (λ (v : Books g.row.T.Denot). with_kept v c.args.ticket c.args.kept) c.self.view_is
