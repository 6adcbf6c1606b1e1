-- The first element that passes a test, and how many do.
use Rattle.std.proofs.Common.{◌≡◌, ◌⊎◌, ℕ, zero, suc, ◌+◌, ◌<◌, ◌≤◌, Bool, true, false, not, cond, List, [], ◌∷◌, ◌++◌, length, get_or, set, Some, None, arith, refl, sym, ap, subst, ◌∙◌, inl, inr, nat_lt}
use Rattle.std.proofs.lemmas.Option.{none-some, slice_get_past}
use Rattle.std.proofs.lemmas.List.Folds.{find_at}
use Rattle.std.proofs.lemmas.List.Quantifiers.{position-Some}
use Rattle.std.proofs.lemmas.List.Sums.{sum_by-cons}
use Rattle.std.specs.List.{AllByRecursion, count_by, filter, find, position, position_or_len, remove}
use Rattle.frame_future.specs.Future.{replaced, Rising}

pub either : (b : Bool) → (b ≡ true) ⊎ (b ≡ false)
either true = inl refl
either false = inr refl

module _ {X : Type 0} where
  -- the first that passes, by its place
  first_at : (p : X → Bool) (xs : List X) (i : ℕ) (d : X) → i < length xs → p (get_or xs i d) ≡ true → ((k : ℕ) → k < i → p (get_or xs k d) ≡ false)
      → (find p xs ≡ Some (get_or xs i d)) × ((new : X) → replaced p new xs ≡ set xs i new)
  first_at p [] i d within hit before = absurd (omega (arith, within))
  first_at p (x ∷ xs) zero d within hit before = (ap (λ b. cond b (Some x) (find p xs)) hit, λ new. ap (λ b. cond b (new ∷ xs) (x ∷ replaced p new xs)) hit)
  first_at p (x ∷ xs) (suc i) d within hit before =
      let rest = first_at p xs i d (omega (arith, within)) hit (λ k l. before (suc k) (omega (arith, l))) in
      let miss : p x ≡ false = before 0 (omega arith) in
      (ap (λ b. cond b (Some x) (find p xs)) miss ∙ rest.0, λ new. ap (λ b. cond b (new ∷ xs) (x ∷ replaced p new xs)) miss ∙ ap (λ ys. x ∷ ys) (rest.1 new))

  pub found_first : (p : X → Bool) (xs : List X) (i : ℕ) (x : X) → position p xs ≡ Some i → x ≡ get_or xs i x
      → (i < length xs) × (p x ≡ true) × (find p xs ≡ Some x) × ((new : X) → replaced p new xs ≡ set xs i new)
  found_first p xs i x is here =
      let place = position-Some p xs i x is in
      let both = first_at p xs i x place.0 place.1 place.2 in
      (place.0, ap p here ∙ place.1, both.0 ∙ ap Some (sym here), both.1)

  pub found_none : (p : X → Bool) (xs : List X) → position p xs ≡ None → find p xs ≡ None
  found_none p xs is = elim (either (nat_lt (position_or_len p xs) (length xs))) [
    | inl some ↦ absurd (none-some (position_or_len p xs) (sym is ∙ ap (λ b. cond b (Some (position_or_len p xs)) None) some))
    | inr none ↦ find_at p xs ∙ slice_get_past xs (position_or_len p xs) (grind (arith, none))
  ]

  -- none passes exactly where none is counted
  pub count_none : (p : X → Bool) (xs : List X) → find p xs ≡ None → count_by p xs ≡ 0
  count_none p [] none = refl
  count_none p (x ∷ xs) none = elim (either (p x)) [
    | inl hit ↦ absurd (none-some x (sym none ∙ ap (λ b. cond b (Some x) (find p xs)) hit))
    | inr miss ↦
        let one = sum_by-cons (λ y. cond (p y) 1 0) x xs ∙ ap (λ b. cond b 1 0 + count_by p xs) miss in
        let rest = count_none p xs (sym (ap (λ b. cond b (Some x) (find p xs)) miss) ∙ none) in
        omega (arith, one, rest)
  ]

  pub none_counted : (p : X → Bool) (xs : List X) → count_by p xs ≡ 0 → find p xs ≡ None
  none_counted p [] none = refl
  none_counted p (x ∷ xs) none = elim (either (p x)) [
    | inl hit ↦ let one = sum_by-cons (λ y. cond (p y) 1 0) x xs ∙ ap (λ b. cond b 1 0 + count_by p xs) hit in absurd (omega (arith, one, none))
    | inr miss ↦
        let rest = sum_by-cons (λ y. cond (p y) 1 0) x xs ∙ ap (λ b. cond b 1 0 + count_by p xs) miss in
        ap (λ b. cond b (Some x) (find p xs)) miss ∙ none_counted p xs (omega (arith, rest, none))
  ]

  -- a filter counts no more, and none of what it takes away
  pub count-filter : (p q : X → Bool) (xs : List X) → count_by p (filter q xs) ≤ count_by p xs
  count-filter p q [] = omega arith
  count-filter p q (x ∷ xs) =
      let whole = sum_by-cons (λ y. cond (p y) 1 0) x xs in
      let rest = count-filter p q xs in
      elim (either (q x)) [
        | inl stays ↦
            let more = sum_by-cons (λ y. cond (p y) 1 0) x (filter q xs) in
            let e : filter q (x ∷ xs) ≡ x ∷ filter q xs = ap (λ b. cond b (x ∷ filter q xs) (filter q xs)) stays in
            subst (λ ys. count_by p ys ≤ count_by p (x ∷ xs)) (sym e) (omega (arith, whole, rest, more))
        | inr goes ↦
            let e : filter q (x ∷ xs) ≡ filter q xs = ap (λ b. cond b (x ∷ filter q xs) (filter q xs)) goes in
            subst (λ ys. count_by p ys ≤ count_by p (x ∷ xs)) (sym e) (omega (arith, whole, rest))
      ]

  pub count-without : (p : X → Bool) (xs : List X) → count_by p (filter (λ x. not (p x)) xs) ≡ 0
  count-without p [] = refl
  count-without p (x ∷ xs) = elim (either (p x)) [
    | inl hit ↦
        let e : filter (λ y. not (p y)) (x ∷ xs) ≡ filter (λ y. not (p y)) xs = ap (λ b. cond (not b) (x ∷ filter (λ y. not (p y)) xs) (filter (λ y. not (p y)) xs)) hit in
        ap (count_by p) e ∙ count-without p xs
    | inr miss ↦
        let e : filter (λ y. not (p y)) (x ∷ xs) ≡ x ∷ filter (λ y. not (p y)) xs = ap (λ b. cond (not b) (x ∷ filter (λ y. not (p y)) xs) (filter (λ y. not (p y)) xs)) miss in
        let one = sum_by-cons (λ y. cond (p y) 1 0) x (filter (λ y. not (p y)) xs) ∙ ap (λ b. cond b 1 0 + count_by p (filter (λ y. not (p y)) xs)) miss in
        let rest = count-without p xs in
        ap (count_by p) e ∙ omega (arith, one, rest)
  ]

-- rising numbers, with a greater one behind them, and without one of them
all-push : (P : ℕ → Type 0) (ts : List ℕ) (t : ℕ) → AllByRecursion P ts → P t → AllByRecursion P (ts ++ t ∷ [])
all-push P [] t all one = (one, tt)
all-push P (u ∷ ts) t all one = (all.0, all-push P ts t all.1 one)

pub rising-push : (ts : List ℕ) (t : ℕ) → Rising ts → AllByRecursion (λ u. u < t) ts → Rising (ts ++ t ∷ [])
rising-push [] t rising below = (tt, tt)
rising-push (u ∷ ts) t rising below = (all-push (λ v. u < v) ts t rising.0 below.0, rising-push ts t rising.1 below.1)

all-drop : (P : ℕ → Type 0) (ts : List ℕ) (i : ℕ) → AllByRecursion P ts → AllByRecursion P (remove ts i)
all-drop P [] zero all = tt
all-drop P [] (suc i) all = tt
all-drop P (t ∷ ts) zero all = all.1
all-drop P (t ∷ ts) (suc i) all = (all.0, all-drop P ts i all.1)

pub rising-remove : (ts : List ℕ) (i : ℕ) → Rising ts → Rising (remove ts i)
rising-remove [] zero rising = tt
rising-remove [] (suc i) rising = tt
rising-remove (t ∷ ts) zero rising = rising.1
rising-remove (t ∷ ts) (suc i) rising = (all-drop (λ u. t < u) ts i rising.0, rising-remove ts i rising.1)
