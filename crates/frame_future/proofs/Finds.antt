-- What is found of a frame, by the places that the code finds.
use Rattle.std.proofs.Common.{◌≡◌, ◌==◌, ℕ, ◌<◌, Bool, true, false, not, cond, ◌&&◌, List, [], ◌∷◌, ◌++◌, arith, IfSome, subst, true≢false, length, get_or, set, Option, Some, None, refl, sym, ap, ◌∙◌}
use Rattle.std.specs.List.{find, position}
use Rattle.std.proofs.lemmas.List.Folds.{find-append}
use Rattle.std.specs.Option.{option_map_or, option_or, IsSomeAnd}
use Rattle.frame_future.specs.Flights.{Flying, is_stopped}
use Rattle.frame_future.specs.Future.{Finished, Future, flight_of, is_flight_of, is_lent, asked_by, is_mapped, is_picture_of, phase_by, phase_of, replaced, shown_by}
use Rattle.frame_future.specs.declared.phase.Phase.TheVariants as phase
use Rattle.frame_future.proofs.Lists.{found_first}

-- the element at a place of a future's list, as it is found in the list itself
pub flight_here : (inside s : Future) (p : Flying → Bool) (place : ℕ) (f : Flying) → inside ≡ s → position p s.flights ≡ Some place → f ≡ get_or inside.flights place f
    → (place < length s.flights) × (p f ≡ true) × (find p s.flights ≡ Some f) × ((new : Flying) → replaced p new s.flights ≡ set s.flights place new)
flight_here inside s p place f view at here = found_first p s.flights place f at (here ∙ ap (λ (v : Future). get_or v.flights place f) view)

pub picture_here : (inside s : Future) (frame place : ℕ) (p : Finished) → inside ≡ s → position (is_picture_of frame) s.pictures ≡ Some place → p ≡ get_or inside.pictures place p
    → (place < length s.pictures) × (is_picture_of frame p ≡ true) × (shown_by s frame ≡ Some p) × ((new : Finished) → replaced (is_picture_of frame) new s.pictures ≡ set s.pictures place new)
picture_here inside s frame place p view at here = found_first (is_picture_of frame) s.pictures place p at (here ∙ ap (λ (v : Future). get_or v.pictures place p) view)

pub phase_flight : (s : Future) (frame : ℕ) (f : Flying) → flight_of s frame ≡ Some f → phase_of s frame ≡ phase.Flight f.ticket
phase_flight s frame f is = ap (λ o. phase_by o (shown_by s frame)) is

pub phase_done : (s : Future) (frame : ℕ) (p : Finished) → flight_of s frame ≡ None → shown_by s frame ≡ Some p → phase_of s frame ≡ phase.Done p.ticket
phase_done s frame p none is = (λ i. phase_by (none i) (is i))

pub phase_empty : (s : Future) (frame : ℕ) → flight_of s frame ≡ None → shown_by s frame ≡ None → phase_of s frame ≡ phase.Empty
phase_empty s frame none gone = (λ i. phase_by (none i) (gone i))

pub asked_some : (s : Future) (frame : ℕ) (p : Finished) → shown_by s frame ≡ Some p → asked_by s frame ≡ p.channels
asked_some s frame p shown = ap (λ o. option_map_or (λ (p : Finished). p.channels) o (false ∷ false ∷ false ∷ false ∷ [])) shown

pub asked_none : (s : Future) (frame : ℕ) → shown_by s frame ≡ None → asked_by s frame ≡ false ∷ false ∷ false ∷ false ∷ []
asked_none s frame shown = ap (λ o. option_map_or (λ (p : Finished). p.channels) o (false ∷ false ∷ false ∷ false ∷ [])) shown

pub mapped_some : (s : Future) (frame : ℕ) (p : Finished) → shown_by s frame ≡ Some p → is_mapped s frame ≡ is_lent p
mapped_some s frame p is = ap (λ o. option_map_or is_lent o false) is

pub mapped_none : (s : Future) (frame : ℕ) → shown_by s frame ≡ None → is_mapped s frame ≡ false
mapped_none s frame is = ap (λ o. option_map_or is_lent o false) is

pub same_number : (n : ℕ) → (n == n) ≡ true
same_number n = grind arith

-- a flight that begins is its frame's
pub begun_found : (xs : List Flying) (f : Flying) (frame : ℕ) → find (is_flight_of frame) xs ≡ None → f.frame ≡ frame → is_stopped f ≡ false
    → find (is_flight_of frame) (xs ++ f ∷ []) ≡ Some f
begun_found xs f frame none same going =
    let p : Flying → Bool = is_flight_of frame in
    let passes : p f ≡ true = (λ i. (same i == frame) && not (going i)) ∙ ap (λ b. b && true) (same_number frame) in
    find-append p xs (f ∷ []) ∙ ap (λ o. option_or o (find p (f ∷ []))) none ∙ ap (λ b. cond b (Some f) None) passes

module _ {X : Type 0} where
  pub if_some : (P : X → Type 0) (o : Option X) (x : X) → o ≡ Some x → P x → IfSome o P
  if_some P o x is here = subst (λ q. IfSome q P) (sym is) here

  pub and_some : (P : X → Type 0) (o : Option X) (x : X) → o ≡ Some x → P x → IsSomeAnd o P
  and_some P o x is here = subst (λ q. IsSomeAnd q P) (sym is) here

  pub some_of : (P : X → Type 0) (o : Option X) (x : X) → o ≡ Some x → IsSomeAnd o P → P x
  some_of P o x is all = subst (λ q. IsSomeAnd q P) is all

  pub if_of : (P : X → Type 0) (o : Option X) (x : X) → o ≡ Some x → IfSome o P → P x
  if_of P o x is all = subst (λ q. IfSome q P) is all

-- of two tests that both pass, the second
pub not_second : (a b : Bool) → (a && not b) ≡ true → b ≡ false
not_second true true both = sym both
not_second true false both = refl
not_second false b both = absurd (true≢false (sym both))
