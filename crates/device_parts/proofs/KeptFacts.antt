-- The worlds that are kept, once what died is forgotten.
use Rattle.std.proofs.Common.{◌≡◌, ◌∙◌, ◌⊎◌, inl, inr, ℕ, ◌==◌, ◌&&◌, ◌||◌, Bool, true, false, not, cond, List, [], ◌∷◌, refl, sym, ap, ap₂, Option, None, Some}
use Rattle.std.specs.List.{filter}
use Rattle.std.specs.Map.{keys_of}
use Rattle.std.proofs.lemmas.Bool.{cases_Bool, eqb-true}
use Rattle.std.specs.Option.{IsSome, is_some}
use Rattle.object_store.specs.Parts.{at}
use Rattle.object_store.proofs.DeadSteps.{has_key}
use Rattle.seq_model.specs.Life.{has}
use Rattle.kept_worlds.specs.LastKept.{all_but}
use Rattle.device_parts.specs.Deaths.{all_but_those}

swap_not : (a b c : Bool) → (not b && (not a && c)) ≡ (not (a || b) && c)
swap_not true true c = refl
swap_not true false c = refl
swap_not false true c = refl
swap_not false false c = refl

-- all but those that died are those that are there and did not die
pub but_those : (dead : List ℕ) (there : ℕ → Bool) (w : ℕ) → all_but_those dead there w ≡ (not (has w dead) && there w)
but_those [] there w = refl
but_those (d ∷ dead) there w = but_those dead (all_but d there) w ∙ swap_not (d == w) (has w dead) (there w)

-- keys that pass a test of the key
pub has_filtered : {X : Type 0} (q : ℕ → Bool) (w : ℕ) (es : List (ℕ × X)) → (q w && has w (keys_of es)) ≡ has w (keys_of (filter (λ e. q e.0) es))
has_filtered q w [] = by (q w)
  where
    by : (b : Bool) → (b && false) ≡ false
    by true = refl
    by false = refl
has_filtered {X} q w (e ∷ es) = go (cases_Bool (q e.0)) (cases_Bool (e.0 == w)) (has_filtered q w es)
  where
    go : (q e.0 ≡ true) ⊎ (q e.0 ≡ false) → ((e.0 == w) ≡ true) ⊎ ((e.0 == w) ≡ false) → (q w && has w (keys_of es)) ≡ has w (keys_of (filter (λ x. q x.0) es))
        → (q w && ((e.0 == w) || has w (keys_of es))) ≡ has w (keys_of (cond (q e.0) (e ∷ filter (λ x. q x.0) es) (filter (λ x. q x.0) es)))
    go (inl passes) (inl same) rest =
        let at_w : q w ≡ true = ap q (sym (eqb-true e.0 w same)) ∙ passes in
        ap₂ (λ a b. a && (b || has w (keys_of es))) at_w same ∙ sym (ap (λ b. has w (keys_of (cond b (e ∷ filter (λ x. q x.0) es) (filter (λ x. q x.0) es)))) passes ∙ ap (λ b. b || has w (keys_of (filter (λ x. q x.0) es))) same)
    go (inl passes) (inr other) rest =
        ap (λ b. q w && (b || has w (keys_of es))) other ∙ rest
        ∙ sym (ap (λ b. has w (keys_of (cond b (e ∷ filter (λ x. q x.0) es) (filter (λ x. q x.0) es)))) passes ∙ ap (λ b. b || has w (keys_of (filter (λ x. q x.0) es))) other)
    go (inr fails) (inl same) rest =
        let at_w : q w ≡ false = ap q (sym (eqb-true e.0 w same)) ∙ fails in
        ap (λ a. a && ((e.0 == w) || has w (keys_of es))) at_w ∙ sym (ap (λ a. a && has w (keys_of es)) at_w) ∙ rest
        ∙ sym (ap (λ b. has w (keys_of (cond b (e ∷ filter (λ x. q x.0) es) (filter (λ x. q x.0) es)))) fails)
    go (inr fails) (inr other) rest =
        ap (λ b. q w && (b || has w (keys_of es))) other ∙ rest ∙ sym (ap (λ b. has w (keys_of (cond b (e ∷ filter (λ x. q x.0) es) (filter (λ x. q x.0) es)))) fails)

not_not : (n : Bool) → not (not n && true) ≡ n
not_not true = refl
not_not false = refl

-- of what was there, that is there now which did not die
pub left_of : {X : Type 0} (moved now : List (ℕ × X)) (w : ℕ) → has w (keys_of moved) ≡ true →
    not (has w (keys_of (filter (λ e. not (has e.0 (keys_of now))) moved))) ≡ is_some (at w now)
left_of moved now w there =
    ap not (sym (has_filtered (λ k. not (has k (keys_of now))) w moved))
    ∙ ap (λ m. not (not (has w (keys_of now)) && m)) there
    ∙ not_not (has w (keys_of now)) ∙ has_key w now

-- what is there by its key is there in all lists with the same keys
pub there_as : {X : Type 0} (es fs : List (ℕ × X)) (k : ℕ) → keys_of es ≡ keys_of fs → IsSome (at k es) → IsSome (at k fs)
there_as {X} es fs k same there = there_if (at k fs) (sym (has_key k fs) ∙ ap (has k) (sym same) ∙ has_key k es ∙ is_some_if (at k es) there)
  where
    is_some_if : (o : Option X) → IsSome o → is_some o ≡ true
    is_some_if None some = absurd cc
    is_some_if (Some o) some = refl

    there_if : (o : Option X) → is_some o ≡ true → IsSome o
    there_if None some = absurd cc
    there_if (Some o) some = refl
