-- Each number of a list once.
use Rattle.std.proofs.Common.{◌≡◌, ◌∙◌, ◌⊎◌, inl, inr, ℕ, ◌+◌, Bool, true, false, List, [], ◌∷◌, refl, sym, ap, subst}
use Rattle.std.specs.Prelude.{cond, ◌==◌, ◌||◌}
use Rattle.std.specs.List.{AllByRecursion, Contains}
use Rattle.std.specs.List.Sorted.{IsStrictlySortedBy}
use Rattle.std.specs.Cmp.{nat_cmp_is}
use Rattle.std.specs.Ordering.{nat_cmp}
use Rattle.std.specs.declared.cmp.Ordering.TheVariants.{Equal, Less}
use Rattle.std.proofs.lemmas.Bool.{cases_eq, eq-eqb, eqb-true, ne_eqb}
use Rattle.std.proofs.lemmas.List.Folds.{Any-from_list_any, list_any-from_Any}
use Rattle.std.proofs.lemmas.Map.Keys.{sorted_head, sorted_tail}
use Rattle.dev_types.specs.Counting.{times}
use Rattle.dev_types.proofs.SumLaws.{times-other, times-same}
use Rattle.seq_model.specs.Life.{has}

-- a number that is below all of a list is not among them
not_above : (h : ℕ) (xs : List ℕ) → AllByRecursion (λ y. nat_cmp h y ≡ Less) xs → times h xs ≡ 0
not_above h [] above = refl
not_above h (x ∷ xs) above = times-other h x xs (apart x above.0) ∙ not_above h xs above.1
  where
    apart : (x : ℕ) → nat_cmp h x ≡ Less → x ≡ h → ⊥
    apart x less same =
        let here : nat_cmp h h ≡ Less = subst (λ y. nat_cmp h y ≡ Less) same less in
        let equal : Equal ≡ nat_cmp h h = nat_cmp_is h h Equal refl in
        let never : Equal ≡ Less = equal ∙ here in
        cc

-- numbers that rise have each that they have once
rising_once : (h : ℕ) (xs : List ℕ) → IsStrictlySortedBy nat_cmp xs → times h xs ≡ cond (has h xs) 1 0
rising_once h [] rising = refl
rising_once h (x ∷ xs) rising = by (cases_eq x h) (rising_once h xs (sorted_tail nat_cmp x xs rising))
  where
    by : (x ≡ h) ⊎ (x ≡ h → ⊥) → times h xs ≡ cond (has h xs) 1 0 → times h (x ∷ xs) ≡ cond (has h (x ∷ xs)) 1 0
    by (inl same) rest =
        subst (λ h. times h (x ∷ xs) ≡ cond (has h (x ∷ xs)) 1 0) same
        (times-same x xs ∙ ap (λ n. 1 + n) (not_above x xs (sorted_head nat_cmp x xs rising)) ∙ ap (λ b. cond (b || has x xs) 1 0) (sym (eq-eqb x x refl)))
    by (inr apart) rest = times-other h x xs apart ∙ rest ∙ ap (λ b. cond (b || has h xs) 1 0) (sym (ne_eqb x h apart))

same_truth : (a b : Bool) → (a ≡ true → b ≡ true) → (b ≡ true → a ≡ true) → a ≡ b
same_truth true b to from = sym (to refl)
same_truth false true to from = from refl
same_truth false false to from = refl

contains : (h : ℕ) (xs : List ℕ) → has h xs ≡ true → Contains xs h
contains h xs is =
    let found = Any-from_list_any (λ k. k == h) xs is in
    subst (Contains xs) (eqb-true found.1 h found.4) (found.0, found.2, found.3)

has_each : (h : ℕ) (xs : List ℕ) → Contains xs h → has h xs ≡ true
has_each h xs is = list_any-from_Any (λ k. k == h) xs (is.0, h, is.1, is.2, eq-eqb h h refl)

-- numbers that rise and are those of a list have each of it once
pub each_once : (numbers xs : List ℕ) → IsStrictlySortedBy nat_cmp xs → ((h : ℕ) → Contains numbers h → Contains xs h) → ((h : ℕ) → Contains xs h → Contains numbers h) →
    (h : ℕ) → times h xs ≡ cond (has h numbers) 1 0
each_once numbers xs rising to from h =
    rising_once h xs rising
    ∙ ap (λ b. cond b 1 0) (same_truth (has h xs) (has h numbers) (λ is. has_each h numbers (from h (contains h xs is))) (λ is. has_each h xs (to h (contains h numbers is))))
