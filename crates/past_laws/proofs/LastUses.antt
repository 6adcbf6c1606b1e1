-- Maps by numbers whose entries stand in no order.
use Rattle.std.proofs.Common.{ℕ, zero, suc, ◌+◌, ◌==◌, ◌≡◌, ◌<◌, ◌∙◌, Bool, true, false, List, [], ◌∷◌, ◌++◌, Option, Some, None, refl, sym, ap, get_or, set, length, arith}
use Rattle.std.specs.Prelude.{cond}
use Rattle.std.specs.BTreeMap.{is_at}
use Rattle.std.specs.List.{position, position_from}
use Rattle.std.specs.Option.{option_or}
use Rattle.std.specs.Ordering.{nat_cmp}
use Rattle.std.proofs.lemmas.Bool.{eqb-true}
use Rattle.std.proofs.lemmas.Bool.Decides.{nat_tests}
use Rattle.std.proofs.lemmas.Iterator.Adapters.{position_from-zero}
use Rattle.std.proofs.lemmas.List.Quantifiers.{position-Some}
use Rattle.seq_model.proofs.Keys.{at, at_append}

test_of : (w k : ℕ) → is_at (nat_cmp w) k ≡ (k == w)
test_of w k = grind (arith, nat_tests)

-- the first entry of key w stands at place i
record IsFirst {X : Type 0} (w : ℕ) (xs : List (ℕ × X)) (i : ℕ) (d : ℕ × X) : Type 0 where
  within : i < length xs
  here : ((get_or xs i d).0 == w) ≡ true
  earlier : (k : ℕ) → k < i → ((get_or xs k d).0 == w) ≡ false

is_first : {X : Type 0} (w : ℕ) (xs : List (ℕ × X)) (i : ℕ) (d : ℕ × X) → position (λ x. x.0 == w) xs ≡ Some i → IsFirst w xs i d
is_first w xs i d found =
    let facts = position-Some (λ x. x.0 == w) xs i d found in
    record { within = facts.0; here = facts.1; earlier = facts.2 }

later : {X : Type 0} (w : ℕ) (x : ℕ × X) (xs : List (ℕ × X)) (i : ℕ) (d : ℕ × X) → IsFirst w (x ∷ xs) (suc i) d → IsFirst w xs i d
later w x xs i d first = record {
  within = omega (arith, first.within);
  here = first.here;
  earlier = λ k less. first.earlier (suc k) (omega (arith, less));
}

-- what stands at the first place of a key
at_first : {X : Type 0} (w : ℕ) (xs : List (ℕ × X)) (i : ℕ) (d : ℕ × X) → IsFirst w xs i d → at w xs ≡ Some (get_or xs i d).1
at_first w [] i d first = absurd (omega (arith, first.within))
at_first w (x ∷ xs) zero d first = ap (λ b. cond b (Some x.1) (at w xs)) (test_of w x.0 ∙ first.here)
at_first w (x ∷ xs) (suc i) d first =
    ap (λ b. cond b (Some x.1) (at w xs)) (test_of w x.0 ∙ first.earlier 0 (omega arith)) ∙ at_first w xs i d (later w x xs i d first)

pub found_at : {X : Type 0} (w : ℕ) (xs : List (ℕ × X)) (i : ℕ) (d : ℕ × X) → position (λ x. x.0 == w) xs ≡ Some i → at w xs ≡ Some (get_or xs i d).1
found_at w xs i d found = at_first w xs i d (is_first w xs i d found)

pub not_found : {X : Type 0} (w : ℕ) (xs : List (ℕ × X)) → position (λ x. x.0 == w) xs ≡ None → at w xs ≡ None
not_found {X} w xs none = from 0 xs (sym (position_from-zero (λ x. x.0 == w) xs) ∙ none)
  where
    from : (a : ℕ) (xs : List (ℕ × X)) → position_from (λ x. x.0 == w) a xs ≡ None → at w xs ≡ None
    from a [] none = refl
    from a (x ∷ xs) none = by (x.0 == w) refl (from (a + 1) xs)
      where
        by : (b : Bool) → (x.0 == w) ≡ b → (position_from (λ x. x.0 == w) (a + 1) xs ≡ None → at w xs ≡ None) → at w (x ∷ xs) ≡ None
        by true is rest = let some : Some a ≡ None = sym (ap (λ b. cond b (Some a) (position_from (λ x. x.0 == w) (a + 1) xs)) is) ∙ none in absurd cc
        by false is rest =
            ap (λ b. cond b (Some x.1) (at w xs)) (test_of w x.0 ∙ is) ∙
            rest (sym (ap (λ b. cond b (Some a) (position_from (λ x. x.0 == w) (a + 1) xs)) is) ∙ none)

-- what stands where once key w has another value
abbrev with_other : {X : Type 0} → ℕ → X → List (ℕ × X) → ℕ → Option X
with_other w v xs q = cond (w == q) (Some v) (at q xs)

-- the entry at the first place of a key is replaced
at_set : {X : Type 0} (w : ℕ) (v : X) (xs : List (ℕ × X)) (i : ℕ) (d : ℕ × X) (q : ℕ) → IsFirst w xs i d → at q (set xs i (w, v)) ≡ with_other w v xs q
at_set w v [] i d q first = absurd (omega (arith, first.within))
at_set w v (x ∷ xs) zero d q first = ap (λ b. cond b (Some v) (at q xs)) (test_of q w) ∙ by (w == q) refl
  where
    by : (b : Bool) → (w == q) ≡ b → cond b (Some v) (at q xs) ≡ cond b (Some v) (at q (x ∷ xs))
    by true is = refl
    by false is =
        let same : x.0 ≡ w = eqb-true x.0 w first.here in
        let other : is_at (nat_cmp q) x.0 ≡ false = ap (is_at (nat_cmp q)) same ∙ test_of q w ∙ is in
        sym (ap (λ b. cond b (Some x.1) (at q xs)) other)
at_set w v (x ∷ xs) (suc i) d q first = ap (λ rest. cond (is_at (nat_cmp q) x.0) (Some x.1) rest) (at_set w v xs i d q (later w x xs i d first)) ∙ by (w == q) refl
  where
    by : (b : Bool) → (w == q) ≡ b → cond (is_at (nat_cmp q) x.0) (Some x.1) (cond b (Some v) (at q xs)) ≡ cond b (Some v) (at q (x ∷ xs))
    by false is = refl
    by true is =
        let same : w ≡ q = eqb-true w q is in
        ap (λ b. cond b (Some x.1) (Some v)) (ap (λ k. is_at (nat_cmp k) x.0) (sym same) ∙ test_of w x.0 ∙ first.earlier 0 (omega arith))

pub set_there : {X : Type 0} (w : ℕ) (v : X) (xs : List (ℕ × X)) (i : ℕ) (q : ℕ) → position (λ x. x.0 == w) xs ≡ Some i → at q (set xs i (w, v)) ≡ cond (w == q) (Some v) (at q xs)
set_there w v xs i q found = at_set w v xs i (w, v) q (is_first w xs i (w, v) found)

-- an entry of a new key is added
pub pushed_there : {X : Type 0} (w : ℕ) (v : X) (xs : List (ℕ × X)) (q : ℕ) → position (λ x. x.0 == w) xs ≡ None → at q (xs ++ (w, v) ∷ []) ≡ cond (w == q) (Some v) (at q xs)
pushed_there {X} w v xs q none =
    at_append q xs ((w, v) ∷ []) ∙ ap (λ b. option_or (at q xs) (cond b (Some v) None)) (test_of q w) ∙ by (w == q) refl
  where
    or_none : (x : Option X) → option_or x None ≡ x
    or_none None = refl
    or_none (Some x) = refl

    by : (b : Bool) → (w == q) ≡ b → option_or (at q xs) (cond b (Some v) None) ≡ cond b (Some v) (at q xs)
    by false is = or_none (at q xs)
    by true is = ap (λ x. option_or x (Some v)) (ap (λ k. at k xs) (sym (eqb-true w q is)) ∙ not_found w xs none)
