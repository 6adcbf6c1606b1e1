-- Flights and what is kept with them; flights that were lent.
use Rattle.std.proofs.Common.{◌≡◌, ◌==◌, ◌⊎◌, inl, inr, ℕ, zero, suc, All, Bool, true, false, cond, List, [], ◌∷◌, Option, Some, refl, sym, ap, subst, ◌∙◌}
use Rattle.std.proofs.lemmas.List.Elements.{All-from_recursion, recursion_from_All}
use Rattle.std.proofs.lemmas.Option.{none-some}
use Rattle.std.specs.List.{find, slice_get}
use Rattle.std.specs.Option.{IsSomeAnd, option_and_then}
use Rattle.frame_future.specs.Flights.{Flying, away}
use Rattle.frame_future.specs.Future.{Future, flight_at, flight_of, has_ticket, is_flight_of, replaced, with_flight_at, AreHome, IsKept}
use Rattle.frame_future.proofs.Lists.{either}
use Rattle.flight_books.specs.declared.kept.Cargo.{Cargo}
use Rattle.flight_books.specs.Kept.{AreBooked, AreBooks, Books, IsBooked, cargo_at, cargo_of, is_of}
use Rattle.flight_books.proofs.StopLaws.{booked_at, found_passes}
use Rattle.flight_books.proofs.WorkLaws.{all_replaced, first_of}

-- the place of what is found
place_found : (p : Flying → Bool) (fs : List Flying) (f : Flying) → find p fs ≡ Some f → (i : ℕ) × (slice_get fs i ≡ Some f)
place_found p [] f is = absurd (none-some f is)
place_found p (x ∷ fs) f is = by (either (p x)) (place_found p fs f)
  where
    by : (p x ≡ true) ⊎ (p x ≡ false) → (find p fs ≡ Some f → (i : ℕ) × (slice_get fs i ≡ Some f)) → (i : ℕ) × (slice_get (x ∷ fs) i ≡ Some f)
    by (inl hit) deeper = (0, sym (ap (λ b. cond b (Some x) (find p fs)) hit) ∙ is)
    by (inr miss) deeper = let rest = deeper (sym (ap (λ b. cond b (Some x) (find p fs)) miss) ∙ is) in (suc rest.0, rest.1)

-- where another is put in the place of the first that passes, and passes itself, it is found there;
-- and put again, it is as if at once
found_put : (p : Flying → Bool) (fs : List Flying) (f g : Flying) → find p fs ≡ Some f → p g ≡ true → find p (replaced p g fs) ≡ Some g
found_put p [] f g is hit = absurd (none-some f is)
found_put p (x ∷ fs) f g is hit = by (p x) refl (λ rest. found_put p fs f g rest hit)
  where
    by : (b : Bool) → p x ≡ b → (find p fs ≡ Some f → find p (replaced p g fs) ≡ Some g) → find p (cond b (g ∷ fs) (x ∷ replaced p g fs)) ≡ Some g
    by true here deeper = ap (λ b. cond b (Some g) (find p fs)) hit
    by false miss deeper = ap (λ b. cond b (Some x) (find p (replaced p g fs))) miss ∙ deeper (sym (ap (λ b. cond b (Some x) (find p fs)) miss) ∙ is)

twice : (p : Flying → Bool) (fs : List Flying) (f g : Flying) → p f ≡ true → replaced p g (replaced p f fs) ≡ replaced p g fs
twice p [] f g hit = refl
twice p (x ∷ fs) f g hit = by (p x) refl (twice p fs f g hit)
  where
    by : (b : Bool) → p x ≡ b → replaced p g (replaced p f fs) ≡ replaced p g fs → replaced p g (cond b (f ∷ fs) (x ∷ replaced p f fs)) ≡ cond b (g ∷ fs) (x ∷ replaced p g fs)
    by true here rest = ap (λ b. cond b (g ∷ fs) (f ∷ replaced p g fs)) hit
    by false miss rest = ap (λ b. cond b (g ∷ replaced p f fs) (x ∷ replaced p g (replaced p f fs))) miss ∙ ap (λ ys. x ∷ ys) rest

pub lent_home : (s : Future) (ticket : ℕ) (f g : Flying) → AreHome s → flight_at s ticket ≡ Some f → g.home ≡ true
    → (flight_at (with_flight_at s ticket (away f)) ticket ≡ Some (away f)) × AreHome (with_flight_at (with_flight_at s ticket (away f)) ticket g)
lent_home s ticket f g home is one =
    let p : Flying → Bool = has_ticket ticket in
    let hit : p (away f) ≡ true = found_passes p s.flights f is in (
      found_put p s.flights f (away f) is hit,
      subst (λ fs. All (λ (h : Flying). h.home ≡ true) fs) (sym (twice p s.flights (away f) g hit))
          (All-from_recursion (λ (h : Flying). h.home ≡ true) (replaced p g s.flights) (all_replaced (λ (h : Flying). h.home ≡ true) p s.flights g (recursion_from_All (λ (h : Flying). h.home ≡ true) s.flights home) one)),
    )

module _ {T : Type 0} where
  flies_at : (fs : List Flying) (cs : List (Cargo T)) (i : ℕ) (c : Cargo T) → AreBooked fs cs → slice_get cs i ≡ Some c → (f : Flying) × (slice_get fs i ≡ Some f) × IsBooked f c
  flies_at fs [] i c of at = absurd (none-some c at)
  flies_at [] (x ∷ cs) i c of at = absurd of
  flies_at (f ∷ fs) (x ∷ cs) zero c of at = let e : x ≡ c = cc in (f, refl, subst (λ (k : Cargo T). IsBooked f k) e of.0)
  flies_at (f ∷ fs) (x ∷ cs) (suc i) c of at = flies_at fs cs i c of.1 at

  booked_by : (ticket : ℕ) (fs : List Flying) (cs : List (Cargo T)) (f : Flying) → AreBooked fs cs → find (has_ticket ticket) fs ≡ Some f → IsSomeAnd (find (is_of ticket) cs) (IsBooked f)
  booked_by ticket [] cs f of is = absurd (none-some f is)
  booked_by ticket (x ∷ fs) [] f of is = absurd of
  booked_by ticket (x ∷ fs) (c ∷ cs) f of is = by (either (has_ticket ticket x)) (booked_by ticket fs cs f of.1)
    where
      by : (has_ticket ticket x ≡ true) ⊎ (has_ticket ticket x ≡ false) → (find (has_ticket ticket) fs ≡ Some f → IsSomeAnd (find (is_of ticket) cs) (IsBooked f))
          → IsSomeAnd (cond (is_of ticket c) (Some c) (find (is_of ticket) cs)) (IsBooked f)
      by (inl hit) deeper =
          let same : Some x ≡ Some f = sym (ap (λ b. cond b (Some x) (find (has_ticket ticket) fs)) hit) ∙ is in
          let e : x ≡ f = cc in
          let here : is_of ticket c ≡ true = ap (λ n. n == ticket) of.0.ticket ∙ hit in
          subst (λ b. IsSomeAnd (cond b (Some c) (find (is_of ticket) cs)) (IsBooked f)) (sym here) (subst (λ (h : Flying). IsBooked h c) e of.0)
      by (inr miss) deeper =
          let other : is_of ticket c ≡ false = ap (λ n. n == ticket) of.0.ticket ∙ miss in
          subst (λ b. IsSomeAnd (cond b (Some c) (find (is_of ticket) cs)) (IsBooked f)) (sym other) (deeper (sym (ap (λ b. cond b (Some x) (find (has_ticket ticket) fs)) miss) ∙ is))

  pub flight_booked : (b : Books T) (place : ℕ) (f : Flying) → AreBooks b → slice_get b.future.flights place ≡ Some f → (c : Cargo T) × (slice_get b.cargo place ≡ Some c) × IsBooked f c
  flight_booked b place f books at = booked_at b.future.flights b.cargo place f books.cargo at

  pub cargo_booked : (b : Books T) (place : ℕ) (c : Cargo T) → AreBooks b → slice_get b.cargo place ≡ Some c → (f : Flying) × (slice_get b.future.flights place ≡ Some f) × IsBooked f c
  cargo_booked b place c books at = flies_at b.future.flights b.cargo place c books.cargo at

  pub ticket_booked : (b : Books T) (ticket : ℕ) (f : Flying) → AreBooks b → flight_at b.future ticket ≡ Some f → IsSomeAnd (cargo_at b.cargo ticket) (IsBooked f)
  ticket_booked b ticket f books is = booked_by ticket b.future.flights b.cargo f books.cargo is

  pub frame_booked : (b : Books T) (frame : ℕ) (f : Flying) → AreBooks b → IsKept b.future → flight_of b.future frame ≡ Some f → IsSomeAnd (cargo_of b frame) (IsBooked f)
  frame_booked b frame f books kept is =
      let at = place_found (is_flight_of frame) b.future.flights f is in
      let first = first_of b.future.flights at.0 f at.1 kept.rising in
      subst (λ (o : Option Flying). IsSomeAnd (option_and_then (λ (h : Flying). cargo_at b.cargo h.ticket) o) (IsBooked f)) (sym is) (ticket_booked b f.ticket f books first.0)
