-- What flights hold, one object after the other.
use Rattle.std.proofs.Common.{◌≡◌, ◌∙◌, ◌⊎◌, inl, inr, ℕ, ◌+◌, ◌-◌, ◌≤◌, Bool, true, false, List, [], ◌∷◌, Option, Some, None, length, refl, sym, ap, subst, arith}
use Rattle.std.specs.Prelude.{cond}
use Rattle.std.specs.BTreeMap.{is_at}
use Rattle.std.specs.Map.{lookup, set_value}
use Rattle.std.specs.Option.{unwrap_or}
use Rattle.std.specs.Ordering.{nat_cmp}
use Rattle.std.proofs.lemmas.Bool.{cases_eq}
use Rattle.dev_types.specs.Counting.{times}
use Rattle.dev_types.proofs.SumLaws.{times-more, times-other, times-same}
use Rattle.object_store.specs.Kept.{number_at}
use Rattle.object_store.specs.Parts.{at}
use Rattle.seq_model.proofs.Keys.{at_changed, at_unchanged}
use Rattle.device_parts.specs.Holds.{Holds, hold, held_less, held_too, unhold}

-- what is not there is not set
absent : (test : ℕ → Bool) (es : Holds) (w : ℕ) → lookup test es ≡ None → set_value test es w ≡ es
absent test [] w none = refl
absent test (e ∷ es) w none = by (test e.0) refl (absent test es w)
  where
    by : (t : Bool) → test e.0 ≡ t → (lookup test es ≡ None → set_value test es w ≡ es) → set_value test (e ∷ es) w ≡ e ∷ es
    by true is rest = let never : Some e.1 ≡ None = sym (ap (λ b. cond b (Some e.1) (lookup test es)) is) ∙ none in absurd cc
    by false is rest = ap (λ b. cond b ((e.0, w) ∷ es) (e ∷ set_value test es w)) is ∙ ap (λ xs. e ∷ xs) (rest (sym (ap (λ b. cond b (Some e.1) (lookup test es)) is) ∙ none))

-- a number that is set is that number, where there was one, and else none
set_here : (es : Holds) (h w : ℕ) → (number_at (set_value (is_at (nat_cmp h)) es w) h ≡ w) ⊎ (number_at (set_value (is_at (nat_cmp h)) es w) h ≡ 0) × (number_at es h ≡ 0)
set_here es h w = by (at h es) refl
  where
    by : (o : Option ℕ) → at h es ≡ o → (number_at (set_value (is_at (nat_cmp h)) es w) h ≡ w) ⊎ (number_at (set_value (is_at (nat_cmp h)) es w) h ≡ 0) × (number_at es h ≡ 0)
    by (Some v) is = inl (ap (λ o. unwrap_or o 0) (at_changed h es v w is))
    by None is =
        let none : number_at es h ≡ 0 = ap (λ o. unwrap_or o 0) is in
        inr (ap (λ xs. number_at xs h) (absent (is_at (nat_cmp h)) es w is) ∙ none, none)

set_there : (es : Holds) (h k w : ℕ) → (h ≡ k → ⊥) → number_at (set_value (is_at (nat_cmp k)) es w) h ≡ number_at es h
set_there es h k w apart = ap (λ o. unwrap_or o 0) (at_unchanged k h es w apart)

-- one flight more holds an object at most once more
hold_most : (holds : Holds) (h k : ℕ) → number_at (hold holds k) h ≤ number_at holds h + 1
hold_most holds h k = by (cases_eq h k)
  where
    here : (number_at (hold holds k) k ≡ number_at holds k + 1) ⊎ (number_at (hold holds k) k ≡ 0) × (number_at holds k ≡ 0) → number_at (hold holds k) k ≤ number_at holds k + 1
    here (inl is) = omega (arith, is)
    here (inr none) = let is = none.0 in omega (arith, is)

    by : (h ≡ k) ⊎ (h ≡ k → ⊥) → number_at (hold holds k) h ≤ number_at holds h + 1
    by (inl same) = subst (λ x. number_at (hold holds k) x ≤ number_at holds x + 1) (sym same) (here (set_here holds k (number_at holds k + 1)))
    by (inr apart) = let is = set_there holds h k (number_at holds k + 1) apart in omega (arith, is)

pub held_most : (reach : List ℕ) (holds : Holds) (h : ℕ) → number_at (held_too reach holds) h ≤ number_at holds h + length reach
held_most [] holds h = omega arith
held_most (k ∷ reach) holds h =
    let rest = held_most reach (hold holds k) h in
    let one = hold_most holds h k in
    omega (arith, rest, one)

-- one flight less holds an object at most once less
unhold_least : (holds : Holds) (h k : ℕ) → number_at holds h ≤ number_at (unhold holds k) h + times h (k ∷ [])
unhold_least holds h k = by (cases_eq h k)
  where
    here : (number_at (unhold holds k) k ≡ number_at holds k - 1) ⊎ (number_at (unhold holds k) k ≡ 0) × (number_at holds k ≡ 0) → number_at holds k ≤ number_at (unhold holds k) k + 1
    here (inl is) = omega (arith, is)
    here (inr none) = let is = none.1 in omega (arith, is)

    by : (h ≡ k) ⊎ (h ≡ k → ⊥) → number_at holds h ≤ number_at (unhold holds k) h + times h (k ∷ [])
    by (inl same) =
        let one : times k (k ∷ []) ≡ 1 + 0 = times-same k [] in
        let most = here (set_here holds k (number_at holds k - 1)) in
        subst (λ x. number_at holds x ≤ number_at (unhold holds k) x + times x (k ∷ [])) (sym same) (omega (arith, one, most))
    by (inr apart) = let is = set_there holds h k (number_at holds k - 1) apart in omega (arith, is)

pub held_least : (reach : List ℕ) (holds : Holds) (h : ℕ) → number_at holds h ≤ number_at (held_less reach holds) h + times h reach
held_least [] holds h = omega arith
held_least (k ∷ reach) holds h =
    let rest = held_least reach (unhold holds k) h in
    let one = unhold_least holds h k in
    let parts : times h (k ∷ reach) ≡ times h (k ∷ []) + times h reach = times-more h k reach in
    omega (arith, rest, one, parts)

-- and exactly once less, where flights hold it as often
unhold_is : (holds : Holds) (h k : ℕ) → 1 ≤ number_at holds k → number_at (unhold holds k) h + times h (k ∷ []) ≡ number_at holds h
unhold_is holds h k some = by (cases_eq h k)
  where
    here : (number_at (unhold holds k) k ≡ number_at holds k - 1) ⊎ (number_at (unhold holds k) k ≡ 0) × (number_at holds k ≡ 0) → number_at (unhold holds k) k + 1 ≡ number_at holds k
    here (inl is) = omega (arith, is, some)
    here (inr none) = let is = none.1 in absurd (omega (arith, is, some))

    by : (h ≡ k) ⊎ (h ≡ k → ⊥) → number_at (unhold holds k) h + times h (k ∷ []) ≡ number_at holds h
    by (inl same) =
        let one : times k (k ∷ []) ≡ 1 + 0 = times-same k [] in
        let less = here (set_here holds k (number_at holds k - 1)) in
        subst (λ x. number_at (unhold holds k) x + times x (k ∷ []) ≡ number_at holds x) (sym same) (omega (arith, one, less))
    by (inr apart) =
        let is = set_there holds h k (number_at holds k - 1) apart in
        let none : times h (k ∷ []) ≡ 0 = times-other h k [] (λ e. apart (sym e)) in
        omega (arith, is, none)

pub held_less_is : (reach : List ℕ) (holds : Holds) → ((k : ℕ) → times k reach ≤ number_at holds k) → (h : ℕ) → number_at (held_less reach holds) h + times h reach ≡ number_at holds h
held_less_is [] holds held h = omega arith
held_less_is (k ∷ reach) holds held h =
    let one : times k (k ∷ reach) ≡ 1 + times k reach = times-same k reach in
    let all = held k in
    let some : 1 ≤ number_at holds k = omega (arith, one, all) in
    let rest = held_less_is reach (unhold holds k) (still some) h in
    let first = unhold_is holds h k some in
    let parts : times h (k ∷ reach) ≡ times h (k ∷ []) + times h reach = times-more h k reach in
    omega (arith, rest, first, parts)
  where
    still : 1 ≤ number_at holds k → (j : ℕ) → times j reach ≤ number_at (unhold holds k) j
    still some j =
        let all = held j in
        let first = unhold_is holds j k some in
        let parts : times j (k ∷ reach) ≡ times j (k ∷ []) + times j reach = times-more j k reach in
        omega (arith, all, first, parts)
