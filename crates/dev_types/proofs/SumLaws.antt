-- Sums over a list that is read by `get_elem?`, and how often a number stands in a list.
use Rattle.std.proofs.Common.{◌≡◌, ◌≢◌, ◌==◌, ◌⊎◌, ℕ, zero, suc, ◌+◌, ◌*◌, ◌<◌, ◌≤◌, List, [], ◌∷◌, length, set, cond, refl, sym, ap, ◌∙◌, subst, inl, inr, arith, eq-eqb, ne_eqb}
use mathlib.Core.Logic.{dite}
use mathlib.Core.Option.{some, some-injective, some-ne-none}
use native.Mathlib.Decide.{ℕ_discrete}
use lib.ListN.{get_elem?}
use Rattle.std.specs.List.{sum_by}
use Rattle.std.proofs.lemmas.List.Sums.{sum_by-cons}
use Rattle.dev_types.specs.Counting.{times}

module _ {A : Type 0} where
  pub sum_set : (f : A → ℕ) (xs : List A) (i : ℕ) (v w : A) → get_elem? xs i ≡ some v → sum_by f (set xs i w) + f v ≡ sum_by f xs + f w
  sum_set f [] i v w at = absurd (some-ne-none v (sym at))
  sum_set f (x ∷ xs) zero v w at = let same : f x ≡ f v = ap f (some-injective x v at) in omega (arith, sum_by-cons f w xs, sum_by-cons f x xs)
  sum_set f (x ∷ xs) (suc i) v w at = let rest = sum_set f xs i v w at in omega (arith, sum_by-cons f x (set xs i w), sum_by-cons f x xs)

  -- one of them is not above the sum
  pub sum_at : (f : A → ℕ) (xs : List A) (i : ℕ) (v : A) → get_elem? xs i ≡ some v → f v ≤ sum_by f xs
  sum_at f [] i v at = absurd (some-ne-none v (sym at))
  sum_at f (x ∷ xs) zero v at = let same : f x ≡ f v = ap f (some-injective x v at) in omega (arith, sum_by-cons f x xs)
  sum_at f (x ∷ xs) (suc i) v at = let rest = sum_at f xs i v at in omega (arith, sum_by-cons f x xs)

  pub sum_none : (f : A → ℕ) (xs : List A) → ((i : ℕ) (v : A) → get_elem? xs i ≡ some v → f v ≡ 0) → sum_by f xs ≡ 0
  sum_none f [] none_there = refl
  sum_none f (x ∷ xs) none_there =
      let first = none_there 0 x refl in
      let rest = sum_none f xs (λ i v at. none_there (suc i) v at) in
      omega (arith, sum_by-cons f x xs)

  pub sum_double : (f g : A → ℕ) (xs : List A) → ((i : ℕ) (v : A) → get_elem? xs i ≡ some v → g v ≡ 2 * f v) → sum_by g xs ≡ 2 * sum_by f xs
  sum_double f g [] twice = refl
  sum_double f g (x ∷ xs) twice =
      let first = twice 0 x refl in
      let rest = sum_double f g xs (λ i v at. twice (suc i) v at) in
      omega (arith, sum_by-cons f x xs, sum_by-cons g x xs)

  pub at_length : (xs : List A) (i : ℕ) (v : A) → get_elem? xs i ≡ some v → i < length xs
  at_length [] i v at = absurd (some-ne-none v (sym at))
  at_length (x ∷ xs) zero v at = omega arith
  at_length (x ∷ xs) (suc i) v at = let rest = at_length xs i v at in omega arith

  -- a value in place of another that counts as much
  pub sum_same : (f : A → ℕ) (xs : List A) (i : ℕ) (v w : A) → get_elem? xs i ≡ some v → f w ≡ f v → sum_by f (set xs i w) ≡ sum_by f xs
  sum_same f xs i v w at same = let e = sum_set f xs i v w at in omega arith

  -- of a list of one
  pub sum_only : (f : A → ℕ) (xs : List A) (i : ℕ) (v : A) → length xs ≡ 1 → get_elem? xs i ≡ some v → sum_by f xs ≡ f v
  sum_only f [] i v one at = absurd (some-ne-none v (sym at))
  sum_only f (x ∷ []) zero v one at = omega (arith, sum_by-cons f x []) ∙ ap f (some-injective x v at)
  sum_only f (x ∷ []) (suc i) v one at = absurd (some-ne-none v (sym at))
  sum_only f (x ∷ y ∷ ys) i v one at = absurd (omega (arith, one))

  -- where two values of each count as much, so do the sums
  pub sum_agree : (f g : A → ℕ) (xs : List A) → ((i : ℕ) (v : A) → get_elem? xs i ≡ some v → f v ≡ g v) → sum_by f xs ≡ sum_by g xs
  sum_agree f g [] same = refl
  sum_agree f g (x ∷ xs) same =
      let first = same 0 x refl in
      let rest = sum_agree f g xs (λ i v at. same (suc i) v at) in
      omega (arith, sum_by-cons f x xs, sum_by-cons g x xs)

pub times-same : (t : ℕ) (xs : List ℕ) → times t (t ∷ xs) ≡ 1 + times t xs
times-same t xs = sum_by-cons (λ u. cond (u == t) 1 0) t xs ∙ ap (λ b. cond b 1 0 + times t xs) (eq-eqb t t refl)

pub times-other : (t u : ℕ) (xs : List ℕ) → u ≢ t → times t (u ∷ xs) ≡ times t xs
times-other t u xs ne = sum_by-cons (λ r. cond (r == t) 1 0) u xs ∙ ap (λ b. cond b 1 0 + times t xs) (ne_eqb u t ne) ∙ omega arith

-- a tile in front adds one, or nothing
pub times-cons : (t u : ℕ) (xs : List ℕ) → ((u ≡ t) × (times t (u ∷ xs) ≡ 1 + times t xs)) ⊎ ((u ≢ t) × (times t (u ∷ xs) ≡ times t xs))
times-cons t u xs = dite (ℕ_discrete u t)
    (λ e. inl (e, subst (λ r. times t (r ∷ xs) ≡ 1 + times t xs) (sym e) (times-same t xs)))
    (λ ne. inr (ne, times-other t u xs ne))

-- in front of any list it adds as much as to none
pub times-more : (t u : ℕ) (xs : List ℕ) → times t (u ∷ xs) ≡ times t (u ∷ []) + times t xs
times-more t u xs = sum_by-cons (λ r. cond (r == t) 1 0) u xs ∙ omega (arith, sum_by-cons (λ r. cond (r == t) 1 0) u [])
