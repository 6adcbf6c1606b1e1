-- How many flights there are.
use Rattle.std.proofs.Common.{◌≡◌, ◌∙◌, ◌≤◌, ◌==◌, ◌||◌, ◌∷◌, ℕ, Bool, true, false, List, [], inl, inr, length, refl, sym, ap, arith}
use Rattle.std.specs.Prelude.{nat_eq}
use Rattle.std.specs.List.{AllByRecursion, IsDistinct}
use Rattle.std.specs.Set.{is_member}
use Rattle.std.proofs.lemmas.Bool.{eq-eqb, eqb-true}
use Rattle.std.proofs.lemmas.Cmp.{nat_eq_equiv}
use Rattle.std.proofs.lemmas.Map.Made.{length-from_same_keys}
use Rattle.dev_types.specs.Counting.{times}
use Rattle.dev_types.proofs.SumLaws.{times-cons, times-same}
use Rattle.seq_model.specs.Histories.{History}
use Rattle.seq_model.specs.Life.{has}
use Rattle.seq_model.specs.State.{flights}
use Rattle.seq_model.specs.Steps.{after}
use Rattle.seq_model.proofs.Tickets.{tickets_stand_once}

turned : (m n : ℕ) → (m == n) ≡ (n == m)
turned m n = by (m == n) (n == m) refl refl
  where
    by : (b c : Bool) → (m == n) ≡ b → (n == m) ≡ c → b ≡ c
    by true true is back = refl
    by false false is back = refl
    by true false is back = sym (sym back ∙ eq-eqb n m (sym (eqb-true m n is)))
    by false true is back = sym is ∙ eq-eqb m n (sym (eqb-true n m back))

has_turned : (q : ℕ) (xs : List ℕ) → is_member nat_eq xs q ≡ has q xs
has_turned q [] = refl
has_turned q (x ∷ xs) = (λ i. turned q x i || has_turned q xs i)

-- what a list has it has some times
some_times : (t : ℕ) (xs : List ℕ) → has t xs ≡ true → 1 ≤ times t xs
some_times t [] some = absurd cc
some_times t (x ∷ xs) some = by (x == t) refl some (some_times t xs)
  where
    by : (b : Bool) → (x == t) ≡ b → (b || has t xs) ≡ true → (has t xs ≡ true → 1 ≤ times t xs) → 1 ≤ times t (x ∷ xs)
    by true is some rest = let more = times-same t xs in let same : x ≡ t = eqb-true x t is in omega (arith, more, ap (λ y. times t (y ∷ xs)) same)
    by false is some rest =
        let least = rest some in
        elim (times-cons t x xs) [ inl here ↦ (let more = here.1 in omega (arith, more, least)) | inr other ↦ (let same = other.1 in omega (arith, same, least)) ]

none_equal : (x : ℕ) (xs : List ℕ) → has x xs ≡ false → AllByRecursion (λ y. nat_eq x y ≡ false) xs
none_equal x [] none = tt
none_equal x (y ∷ ys) none = by (y == x) refl none (none_equal x ys)
  where
    by : (b : Bool) → (y == x) ≡ b → (b || has x ys) ≡ false → (has x ys ≡ false → AllByRecursion (λ y. nat_eq x y ≡ false) ys) → AllByRecursion (λ y. nat_eq x y ≡ false) (y ∷ ys)
    by true is some rest = absurd cc
    by false is none rest = (turned x y ∙ is, rest none)

distinct : (xs : List ℕ) → ((t : ℕ) → times t xs ≤ 1) → IsDistinct nat_eq xs
unfolding IsDistinct
distinct [] once = tt
distinct (x ∷ xs) once = (none_equal x xs (none (has x xs) refl), distinct xs fewer)
  where
    none : (b : Bool) → has x xs ≡ b → has x xs ≡ false
    none false is = is
    none true is = absurd (let some = some_times x xs is in let more = times-same x xs in let most = once x in omega (arith, some, more, most))

    fewer : (t : ℕ) → times t xs ≤ 1
    fewer t = let most = once t in elim (times-cons t x xs) [ inl here ↦ (let more = here.1 in omega (arith, more, most)) | inr other ↦ (let same = other.1 in omega (arith, same, most)) ]

pub as_many : (history : History) (tickets : List ℕ) → ((t : ℕ) → has t (flights (after history).state) ≡ has t tickets) → ((t : ℕ) → times t tickets ≤ 1) → length (flights (after history).state) ≡ length tickets
as_many history tickets same once =
    length-from_same_keys nat_eq_equiv (flights (after history).state) tickets (distinct (flights (after history).state) (tickets_stand_once history)) (distinct tickets once)
    (λ q. has_turned q (flights (after history).state) ∙ same q ∙ sym (has_turned q tickets))
