use Rattle.std.proofs.Common.{◌≡◌, ◌∙◌, IsSome, List, None, Option, Some, refl, sym, ap, subst, true≢false}
use Rattle.std.specs.List.{position}
use Rattle.frame_future.proofs.Finds.{if_some}
use Rattle.frame_future.proofs.Lists.{found_none}
use Rattle.flight_books.specs.declared.kept.Cargo.{Cargo}
use Rattle.flight_books.specs.Kept.{AreBooks, Books, cargo_at, is_of, with_kept}
use Rattle.flight_books.proofs.CargoLaws.{taken_out}
use Rattle.flight_books.proofs.WorkLaws.{books_reloaded, reloaded_here}
use Rattle.flight_books.proofs.books.FlightBooks.kept_mut.Goals as goal

pub place_of-place-requires : goal.place_of-place-requires
place_of-place-requires g c = λ none.
    let here = subst (λ (xs : List (Cargo g.row.T.Denot)). position (is_of c.args.ticket) xs ≡ None) c.deref.ensures.value none in
    let gone = sym (ap (λ (v : Books g.row.T.Denot). cargo_at v.cargo c.args.ticket) c.self.view_is) ∙ found_none (is_of c.args.ticket) c.self.inside.cargo.items here in
    true≢false (sym (subst (λ (o : Option (Cargo g.row.T.Denot)). IsSome o) gone c.requires))

pub invariant_of-self-lent : goal.invariant_of-self-lent
invariant_of-self-lent g c = λ w.
    let at = subst (λ (xs : List (Cargo g.row.T.Denot)). position (is_of c.args.ticket) xs ≡ Some c.place_of-place.result) c.deref.ensures.value c.place_of-place.ensures in
    let x = c.index_mut-cargo.result.now in
    let items = reloaded_here c.args.ticket w c.self.inside.cargo.items c.place_of-place.result x (record x { kept = w }) at c.index_mut-cargo.ensures.value refl in
    let old : Books g.row.T.Denot = record { future = c.self.inside.frames; cargo = c.self.inside.cargo.items; over = c.self.inside.over.list } in
    subst (λ (xs : List (Cargo g.row.T.Denot)). AreBooks (record old { cargo = xs })) (sym items) (books_reloaded old c.args.ticket w c.self.invariant)

pub returns : goal.returns
returns g c =
    let at = subst (λ (xs : List (Cargo g.row.T.Denot)). position (is_of c.args.ticket) xs ≡ Some c.place_of-place.result) c.deref.ensures.value c.place_of-place.ensures in
    let x = c.index_mut-cargo.result.now in
    let old : Books g.row.T.Denot = record { future = c.self.inside.frames; cargo = c.self.inside.cargo.items; over = c.self.inside.over.list } in
    let out = taken_out c.args.ticket c.self.inside.cargo.items c.place_of-place.result x at c.index_mut-cargo.ensures.value in
    let is = sym (ap (λ (v : Books g.row.T.Denot). cargo_at v.cargo c.args.ticket) c.self.view_is) ∙ out.1 in (
      (
        refl,
        λ w.
            ap (λ (xs : List (Cargo g.row.T.Denot)). record old { cargo = xs })
            (reloaded_here c.args.ticket w c.self.inside.cargo.items c.place_of-place.result x (record x { kept = w }) at c.index_mut-cargo.ensures.value refl)
            ∙ ap (λ (v : Books g.row.T.Denot). with_kept v c.args.ticket w) c.self.view_is,
      ),
      record { writes_back = tt; value = if_some (λ (k : Cargo g.row.T.Denot). x.kept ≡ k.kept) (cargo_at c.args.self.now.cargo c.args.ticket) x is refl },
    )
