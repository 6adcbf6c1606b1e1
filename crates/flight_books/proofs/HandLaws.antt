-- A flight that is asked for another seat, by its ticket.
use Rattle.std.proofs.Common.{◌≡◌, ◌∙◌, ℕ, true, Option, Some, None, Result, Ok, Err, IfSome, refl, sym, ap, subst}
use Rattle.std.proofs.lemmas.List.Elements.{All-from_recursion, recursion_from_All}
use Rattle.std.specs.Option.{IsSomeAnd}
use Rattle.dev_types.specs.declared.handles.NoMemory.{NoMemory as NoRoom}
use Rattle.tile_claims.specs.declared.seats.Claims.{Claims}
use Rattle.tile_claims.specs.declared.seats.Seat.{Seat}
use Rattle.frame_future.specs.Flights.{Flying}
use Rattle.frame_future.specs.Future.{AreHome, Future, IsHandout, asked_for, flight_at, has_ticket, replaced, with_flight_at}
use Rattle.flight_books.specs.declared.kept.Cargo.{Cargo}
use Rattle.flight_books.specs.Kept.{AreBooks, Books, IsBooked, with_future}
use Rattle.flight_books.proofs.WorkLaws.{all_replaced, booked_asked, books_replaced}

asked_home : (r : Result (Option (Claims × Seat)) NoRoom) (read : ℕ) (f : Flying) → (asked_for r read f).home ≡ f.home
asked_home (Ok (Some out)) read f = refl
asked_home (Ok None) read f = refl
asked_home (Err e) read f = refl

-- it lends nothing
pub home_handed : (old new : Future) (ticket : ℕ) (r : Result (Option (Claims × Seat)) NoRoom) (o : Option Flying) → flight_at old ticket ≡ o → IsSomeAnd o (λ f. f.home ≡ true)
    → IfSome o (λ f. (g : Flying) × IsHandout f g r × (new ≡ with_flight_at old ticket g)) → AreHome old → AreHome new
home_handed old new ticket r None is there handed home = absurd there
home_handed old new ticket r (Some f) is there handed home =
    let all = recursion_from_All (λ (h : Flying). h.home ≡ true) old.flights home in
    let g : Flying = handed.0 in
    let here : g.home ≡ true = ap (λ (h : Flying). h.home) handed.1.now ∙ asked_home r handed.1.read f ∙ there in
    subst (λ (v : Future). AreHome v) (sym handed.2)
    (All-from_recursion (λ (h : Flying). h.home ≡ true) (replaced (has_ticket ticket) g old.flights) (all_replaced (λ (h : Flying). h.home ≡ true) (has_ticket ticket) old.flights g all here))

module _ {T : Type 0} where
  -- what holds of the books holds on
  pub books_handed : (old : Books T) (new : Future) (ticket : ℕ) (r : Result (Option (Claims × Seat)) NoRoom) (o : Option Flying) → flight_at old.future ticket ≡ o → IsSomeAnd o (λ f. f.home ≡ true)
      → IfSome o (λ f. (g : Flying) × IsHandout f g r × (new ≡ with_flight_at old.future ticket g)) → AreBooks old → AreBooks (with_future old new)
  books_handed old new ticket r None is there handed books = absurd there
  books_handed old new ticket r (Some f) is there handed books =
      let g : Flying = handed.0 in
      let keeps : (c : Cargo T) → IsBooked f c → IsBooked g c = λ c booked. subst (λ (h : Flying). IsBooked h c) (sym handed.1.now) (booked_asked r handed.1.read f c booked) in
      subst (λ (v : Future). AreBooks (with_future old v)) (sym handed.2) (books_replaced (has_ticket ticket) old f g is keeps books)

  -- and what is said of the future is said of the books
  pub handed_seen : (old : Books T) (new : Future) (ticket : ℕ) (r : Result (Option (Claims × Seat)) NoRoom) (o : Option Flying)
      → IfSome o (λ f. (g : Flying) × IsHandout f g r × (new ≡ with_flight_at old.future ticket g))
      → IfSome o (λ f. (g : Flying) × IsHandout f g r × (with_future old new ≡ with_future old (with_flight_at old.future ticket g)))
  handed_seen old new ticket r None handed = tt
  handed_seen old new ticket r (Some f) handed = (handed.0, handed.1, ap (with_future old) handed.2)
