-- Lists by keys: what goes from one test to another, and what sorting makes of it.
use Rattle.std.proofs.Common.{ℕ, ◌+◌, ◌==◌, ◌≡◌, ◌<◌, ◌≤◌, ◌∙◌, Bool, true, false, List, [], ◌∷◌, All, Option, Some, None, get_or, length, refl, sym, ap, subst, arith}
use Rattle.std.specs.Prelude.{cond}
use Rattle.std.specs.BTreeMap.{is_at}
use Rattle.std.specs.List.{AllByRecursion, IsDistinct}
use Rattle.std.specs.List.Sorted.{IsNonDecreasing, IsNonDecreasingBy, IsPermutation, IsStrictlySortedBy}
use Rattle.std.specs.Map.{keys_of}
use Rattle.std.specs.Ordering.{nat_cmp}
use Rattle.std.specs.declared.cmp.Ordering.TheVariants.{Less}
use Rattle.std.proofs.lemmas.Bool.Decides.{nat_tests}
use Rattle.std.proofs.lemmas.List.{get_or-map, length-map}
use Rattle.std.proofs.lemmas.List.Elements.{All-head, All-tail, All-weaker}
use Rattle.std.proofs.lemmas.List.Sorted.{All-permutation, IsNonDecreasingBy-from_default, IsPermutation-map, IsPermutation-sym}
use Rattle.std.proofs.lemmas.Map.Keys.{IsDistinct-IsPermutation, IsStrictlyIncreasing-from_distinct, sorted_from_strictly_increasing}
use Rattle.seq_model.proofs.Keys.{RisesWithin, all_from_at, at, at_within, entries_are_at, key_is, rises_up}
use Rattle.object_store.proofs.Keyed.{same_by_looks}

-- rising keys are distinct
apart_above : (k low high : ℕ) (ks : List ℕ) → RisesWithin low high ks → k < low → AllByRecursion (λ y. (k == y) ≡ false) ks
apart_above k low high [] up below = tt
apart_above k low high (x ∷ ks) up below = (grind (arith, nat_tests, up.0, below), apart_above k (x + 1) high ks up.1 (omega (arith, up.0, below)))

distinct : (low high : ℕ) (ks : List ℕ) → RisesWithin low high ks → IsDistinct (λ x y. x == y) ks
unfolding IsDistinct
distinct low high [] up = tt
distinct low high (k ∷ ks) up = (apart_above k (k + 1) high ks up.1 (omega arith), distinct (k + 1) high ks up.1)

-- keys that are sorted, and within, rise
above : (k : ℕ) (ks : List ℕ) → AllByRecursion (λ y. nat_cmp k y ≡ Less) ks → AllByRecursion (λ y. k + 1 ≤ y) ks
above k [] less = tt
above k (x ∷ ks) less = (grind (arith, nat_tests, less.0), above k ks less.1)

rises_sorted : (low high : ℕ) (ks : List ℕ) → low ≤ high → IsStrictlySortedBy nat_cmp ks → AllByRecursion (λ y. low ≤ y) ks → AllByRecursion (λ y. y < high) ks → RisesWithin low high ks
unfolding IsStrictlySortedBy
rises_sorted low high [] within up lows highs = within
rises_sorted low high (k ∷ ks) within up lows highs = (lows.0, rises_sorted (k + 1) high ks (omega (arith, highs.0)) up.1 (above k ks up.0) highs.1)

module _ {Y : Type 0} where
  by_keys : (P : ℕ → Type 0) (ys : List (ℕ × Y)) → All (λ (e : ℕ × Y). P e.0) ys → AllByRecursion P (keys_of ys)
  by_keys P [] all = tt
  by_keys P (y ∷ ys) all = (All-head (λ (e : ℕ × Y). P e.0) y ys all, by_keys P ys (All-tail (λ (e : ℕ × Y). P e.0) y ys all))

  all_at : (P : ℕ × Y → Type 0) (h : ℕ) (es : List (ℕ × Y)) (v : Y) → All P es → at h es ≡ Some v → P (h, v)
  all_at P h [] v all there = absurd cc
  all_at P h (e ∷ es) v all there = by (is_at (nat_cmp h) e.0) refl (λ later. all_at P h es v (All-tail P e es all) later)
    where
      by : (t : Bool) → is_at (nat_cmp h) e.0 ≡ t → (at h es ≡ Some v → P (h, v)) → P (h, v)
      by true is rest =
          let found : Some e.1 ≡ Some v = sym (ap (λ t. cond t (Some e.1) (at h es)) is) ∙ there in
          let same : e.1 ≡ v = cc in
          subst (λ k. P (k, v)) (sym (key_is h e.0 is)) (subst (λ (w : Y). P (e.0, w)) same (All-head P e es all))
      by false is rest = rest (sym (ap (λ t. cond t (Some e.1) (at h es)) is) ∙ there)

  keys_do_not_fall : (ys : List (ℕ × Y)) → IsNonDecreasingBy (λ (e : ℕ × Y). e.0) ys → IsNonDecreasing (keys_of ys)
  keys_do_not_fall [] up = λ i j d less within. absurd (omega (arith, within))
  keys_do_not_fall (y ∷ ys) up =
      IsNonDecreasingBy-from_default (λ (k : ℕ). k) (keys_of (y ∷ ys)) y.0
      (λ i j less within.
      let inside : j < length (y ∷ ys) = subst (λ n. j < n) (length-map (y ∷ ys) (λ (e : ℕ × Y). e.0)) within in
      let first : get_or (keys_of (y ∷ ys)) i y.0 ≡ (get_or (y ∷ ys) i y).0 = get_or-map (λ (e : ℕ × Y). e.0) (y ∷ ys) i y y.0 (omega (arith, less, inside)) in
      let second : get_or (keys_of (y ∷ ys)) j y.0 ≡ (get_or (y ∷ ys) j y).0 = get_or-map (λ (e : ℕ × Y). e.0) (y ∷ ys) j y y.0 inside in
      omega (arith, first, second, up i j y less inside))

  -- a list with rising keys, in another order whose keys do not fall, is itself
  pub sorted_is : (low high : ℕ) (xs ys : List (ℕ × Y)) → RisesWithin low high (keys_of xs) → IsPermutation xs ys → IsNonDecreasingBy (λ (e : ℕ × Y). e.0) ys → ys ≡ xs
  sorted_is low high xs ys up moved sorted = same_by_looks low high ys xs also up (λ h. looks h (at h ys) refl (at h xs) refl)
    where
      within : All (λ (e : ℕ × Y). (low ≤ e.0) × (e.0 < high)) ys
      within =
          All-permutation (λ (e : ℕ × Y). (low ≤ e.0) × (e.0 < high)) xs ys moved
          (all_from_at (λ (e : ℕ × Y). (low ≤ e.0) × (e.0 < high)) low high xs up (λ h v there. at_within h low high xs v up there))

      keys_moved : IsPermutation (keys_of xs) (keys_of ys)
      keys_moved = IsPermutation-map (λ (e : ℕ × Y). e.0) xs ys moved

      apart : IsDistinct (λ x y. x == y) (keys_of ys)
      apart = IsDistinct-IsPermutation (λ x y. x == y) (λ x y. grind (arith, nat_tests)) (keys_of xs) (keys_of ys) keys_moved (distinct low high (keys_of xs) up)

      also : RisesWithin low high (keys_of ys)
      also =
          rises_sorted low high (keys_of ys) (rises_up low high (keys_of xs) up)
          (sorted_from_strictly_increasing (keys_of ys) (IsStrictlyIncreasing-from_distinct (keys_of ys) (keys_do_not_fall ys sorted) apart))
          (by_keys (λ k. low ≤ k) ys (All-weaker (λ (e : ℕ × Y). (low ≤ e.0) × (e.0 < high)) (λ (e : ℕ × Y). low ≤ e.0) (λ e both. both.0) ys within))
          (by_keys (λ k. k < high) ys (All-weaker (λ (e : ℕ × Y). (low ≤ e.0) × (e.0 < high)) (λ (e : ℕ × Y). e.0 < high) (λ e both. both.1) ys within))

      of_ys : All (λ (e : ℕ × Y). at e.0 xs ≡ Some e.1) ys
      of_ys = All-permutation (λ (e : ℕ × Y). at e.0 xs ≡ Some e.1) xs ys moved (entries_are_at low high xs up)

      of_xs : All (λ (e : ℕ × Y). at e.0 ys ≡ Some e.1) xs
      of_xs = All-permutation (λ (e : ℕ × Y). at e.0 ys ≡ Some e.1) ys xs (IsPermutation-sym xs ys moved) (entries_are_at low high ys also)

      looks : (h : ℕ) (a : Option Y) → at h ys ≡ a → (b : Option Y) → at h xs ≡ b → at h ys ≡ at h xs
      looks h (Some v) is b _ = is ∙ sym (all_at (λ (e : ℕ × Y). at e.0 xs ≡ Some e.1) h ys v of_ys is)
      looks h None is (Some w) there = all_at (λ (e : ℕ × Y). at e.0 ys ≡ Some e.1) h xs w of_xs there ∙ sym there
      looks h None is None there = is ∙ sym there
