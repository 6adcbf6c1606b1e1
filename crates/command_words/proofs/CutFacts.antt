-- A word and its first equals sign, as `clap` and as the options cut it.
use Rattle.std.proofs.Common.{◌≡◌, ◌∙◌, ℕ, Bool, List, [], ◌∷◌, ◌+◌, Option, Some, None, true, false, not, cond, refl, sym, ap, ap₂, arith, suc, take, drop, length, nat_lt, true≢false, ◌⊎◌, inl, inr, is_some, unwrap_or, ◌≢◌, ◌||◌}
use Prim.Native.Nat.compare
use Rattle.std.specs.Str.{bytes_eq}
use Rattle.std.proofs.lemmas.Slice.Eq.{bytes_eq-Decides}
use Rattle.std.specs.Prelude.{option_and_then, ◌==◌}
use Rattle.std.specs.List.{after_first, before_first, list_any, position_or_len}
use Rattle.std.proofs.lemmas.Bool.{eqb-true, cases_Bool, lt-ltb}
use Rattle.clap.specs.Lexer.{has_byte, long_of, long_of_rest, name_and_value, short_of, short_of_rest, strip_byte}
use Rattle.command_words.specs.Options.{has_value, is_equals_sign, whole_option}
use Rattle.command_words.specs.Reading.{dashed}

pub none_some : {X : Type 0} {x : X} → None ≡ Some x → ⊥
none_some e = true≢false (sym (ap is_some e))

nil_not_cons : {X : Type 0} {x : X} {xs : List X} → [] ≢ x ∷ xs
nil_not_cons {X} e = true≢false (sym (ap is_cons e))
  where
    is_cons : List X → Bool
    is_cons [] = false
    is_cons (y ∷ ys) = true

abbrev head_or : {X : Type 0} → X → List X → X
head_or d [] = d
head_or d (x ∷ xs) = x

abbrev tail_of : {X : Type 0} → List X → List X
tail_of [] = []
tail_of (x ∷ xs) = xs

pub some_same : {X : Type 0} {x y : X} → Some x ≡ Some y → x ≡ y
some_same {X} {x} {y} e = ap (λ o. unwrap_or o x) e

one_less : (m n : ℕ) → nat_lt (suc m) (suc n) ≡ nat_lt m n
one_less m n = rw (compare.suc-suc (suc m) n) refl

module _ (p : ℕ → Bool) where
  -- past an element that does not pass
  pub first_later : (x : ℕ) (xs : List ℕ) → p x ≡ false → position_or_len p (x ∷ xs) ≡ suc (position_or_len p xs)
  first_later x xs fails =
      let more : 1 + position_or_len p xs ≡ suc (position_or_len p xs) = omega arith in
      ap (λ b. cond (not b) (1 + position_or_len p xs) 0) fails ∙ more

  pub before_later : (x : ℕ) (xs : List ℕ) → p x ≡ false → before_first p (x ∷ xs) ≡ x ∷ before_first p xs
  before_later x xs fails = ap (λ k. take k (x ∷ xs)) (first_later x xs fails)

  pub after_later : (x : ℕ) (xs : List ℕ) → p x ≡ false → after_first p (x ∷ xs) ≡ after_first p xs
  after_later x xs fails =
      let more : suc (position_or_len p xs) + 1 ≡ suc (position_or_len p xs + 1) = omega arith in
      ap (λ k. drop (k + 1) (x ∷ xs)) (first_later x xs fails) ∙ ap (λ k. drop k (x ∷ xs)) more

  first_here : (x : ℕ) (xs : List ℕ) → p x ≡ true → position_or_len p (x ∷ xs) ≡ 0
  first_here x xs passes = ap (λ b. cond (not b) (1 + position_or_len p xs) 0) passes

  -- an element passes where the first that does is not past the end
  pub any_below : (xs : List ℕ) → nat_lt (position_or_len p xs) (length xs) ≡ list_any p xs
  any_below [] = refl
  any_below (x ∷ xs) = go (cases_Bool (p x)) (any_below xs)
    where
      go : (p x ≡ true) ⊎ (p x ≡ false) → nat_lt (position_or_len p xs) (length xs) ≡ list_any p xs → nat_lt (position_or_len p (x ∷ xs)) (length (x ∷ xs)) ≡ list_any p (x ∷ xs)
      go (inl e) more = ap (λ k. nat_lt k (suc (length xs))) (first_here x xs e) ∙ lt-ltb 0 (suc (length xs)) (omega arith) ∙ sym (ap (λ b. b || list_any p xs) e)
      go (inr e) more = ap (λ k. nat_lt k (suc (length xs))) (first_later x xs e) ∙ one_less (position_or_len p xs) (length xs) ∙ more ∙ sym (ap (λ b. b || list_any p xs) e)

  pub none_before : (xs : List ℕ) → list_any p xs ≡ false → before_first p xs ≡ xs
  none_before [] none = refl
  none_before (x ∷ xs) none = go (cases_Bool (p x)) (none_before xs)
    where
      go : (p x ≡ true) ⊎ (p x ≡ false) → (list_any p xs ≡ false → before_first p xs ≡ xs) → before_first p (x ∷ xs) ≡ x ∷ xs
      go (inl e) more = absurd (true≢false (sym (ap (λ b. b || list_any p xs) e) ∙ none))
      go (inr e) more = before_later x xs e ∙ ap (λ ys. x ∷ ys) (more (sym (ap (λ b. b || list_any p xs) e) ∙ none))

-- ---- words with two hyphens

pub stripped : (w t : List ℕ) → strip_byte 45 w ≡ Some t → w ≡ 45 ∷ t
stripped [] t e = absurd (none_some e)
stripped (x ∷ xs) t e = go (cases_Bool (x == 45))
  where
    go : ((x == 45) ≡ true) ⊎ ((x == 45) ≡ false) → x ∷ xs ≡ 45 ∷ t
    go (inl y) = ap₂ (λ a b. a ∷ b) (eqb-true x 45 y) (some_same (sym (ap (λ b. cond b (Some xs) None) y) ∙ e))
    go (inr y) = absurd (none_some (sym (ap (λ b. cond b (Some xs) None) y) ∙ e))

-- a long option, as its word is cut
pub long_word_is : (w : List ℕ) (p : List ℕ × Option (List ℕ)) → long_of w ≡ Some p → (t : List ℕ) × (w ≡ dashed t) × (name_and_value t ≡ p)
long_word_is w p e = go (strip_byte 45 w) refl e
  where
    inner : (t : List ℕ) → long_of_rest t ≡ Some p → name_and_value t ≡ p
    inner [] f = absurd (none_some f)
    inner (x ∷ xs) f = some_same f

    second : (u : List ℕ) → w ≡ 45 ∷ u → (o : Option (List ℕ)) → strip_byte 45 u ≡ o → option_and_then long_of_rest o ≡ Some p → (t : List ℕ) × (w ≡ dashed t) × (name_and_value t ≡ p)
    second u is None y f = absurd (none_some f)
    second u is (Some t) y f = (t, is ∙ ap (λ v. 45 ∷ v) (stripped u t y), inner t f)

    go : (o : Option (List ℕ)) → strip_byte 45 w ≡ o → option_and_then long_of_rest (option_and_then (strip_byte 45) o) ≡ Some p
        → (t : List ℕ) × (w ≡ dashed t) × (name_and_value t ≡ p)
    go None y f = absurd (none_some f)
    go (Some u) y f = second u (stripped w u y) (strip_byte 45 u) refl f

-- the same word, as the options cut it
pub cut_value : (t n v : List ℕ) → name_and_value t ≡ (n, Some v) → (has_value (dashed t) ≡ true) × (whole_option (dashed t) ≡ (dashed n, Some v))
cut_value t n v e = go (cases_Bool (has_byte 61 t))
  where
    both : before_first is_equals_sign (dashed t) ≡ dashed (before_first is_equals_sign t)
    both = before_later is_equals_sign 45 (45 ∷ t) refl ∙ ap (λ ys. 45 ∷ ys) (before_later is_equals_sign 45 t refl)

    after : after_first is_equals_sign (dashed t) ≡ after_first is_equals_sign t
    after = after_later is_equals_sign 45 (45 ∷ t) refl ∙ after_later is_equals_sign 45 t refl

    go : (has_byte 61 t ≡ true) ⊎ (has_byte 61 t ≡ false) → (has_value (dashed t) ≡ true) × (whole_option (dashed t) ≡ (dashed n, Some v))
    go (inl y) =
        let cut : (before_first is_equals_sign t, Some (after_first is_equals_sign t)) ≡ (n, Some v) = sym (ap (λ b. (before_first is_equals_sign t, cond b (Some (after_first is_equals_sign t)) None)) y) ∙ e in (
          any_below is_equals_sign (dashed t) ∙ y,
          ap₂ (λ a b. (a, Some b)) both after ∙ ap (λ (q : List ℕ × Option (List ℕ)). (dashed q.0, q.1)) cut,
        )
    go (inr y) = absurd (none_some (sym (ap (λ b. cond b (Some (after_first is_equals_sign t)) None) y) ∙ ap (λ (q : List ℕ × Option (List ℕ)). q.1) e))

pub cut_name : (t n : List ℕ) → name_and_value t ≡ (n, None) → (has_value (dashed t) ≡ false) × (t ≡ n)
cut_name t n e = go (cases_Bool (has_byte 61 t))
  where
    go : (has_byte 61 t ≡ true) ⊎ (has_byte 61 t ≡ false) → (has_value (dashed t) ≡ false) × (t ≡ n)
    go (inl y) = absurd (none_some (sym (ap (λ (q : List ℕ × Option (List ℕ)). q.1) e) ∙ ap (λ b. cond b (Some (after_first is_equals_sign t)) None) y))
    go (inr y) = (any_below is_equals_sign (dashed t) ∙ y, sym (none_before is_equals_sign t y) ∙ ap (λ (q : List ℕ × Option (List ℕ)). q.0) e)

-- what has no hyphen first is no flag
pub no_flag : (w : List ℕ) → strip_byte 45 w ≡ None → (long_of w ≡ None) × (short_of w ≡ None)
no_flag w e = (ap (λ o. option_and_then long_of_rest (option_and_then (strip_byte 45) o)) e, ap (λ o. option_and_then short_of_rest o) e)

abbrev no_text : Option (List ℕ)
no_text = None

-- a name of an option, as a word
pub named_long : (n : List ℕ) → n ≢ [] → list_any is_equals_sign n ≡ false → long_of (dashed n) ≡ Some (n, None)
named_long [] some none = absurd (some refl)
named_long (x ∷ xs) some none = ap (λ b. Some (before_first is_equals_sign (x ∷ xs), cond b (Some (after_first is_equals_sign (x ∷ xs))) None)) none
    ∙ ap (λ (n : List ℕ). Some (n, no_text)) (none_before is_equals_sign (x ∷ xs) none)

-- what stands before the sign begins as the word does
before_cons : (w : List ℕ) (a : ℕ) (m : List ℕ) → before_first is_equals_sign w ≡ a ∷ m → (t : List ℕ) × (w ≡ a ∷ t) × (is_equals_sign a ≡ false) × (before_first is_equals_sign t ≡ m)
before_cons [] a m e = absurd (nil_not_cons e)
before_cons (x ∷ xs) a m e = go (cases_Bool (is_equals_sign x))
  where
    go : (is_equals_sign x ≡ true) ⊎ (is_equals_sign x ≡ false) → (t : List ℕ) × (x ∷ xs ≡ a ∷ t) × (is_equals_sign a ≡ false) × (before_first is_equals_sign t ≡ m)
    go (inl y) = absurd (nil_not_cons (sym (ap (λ k. take k (x ∷ xs)) (first_here is_equals_sign x xs y)) ∙ e))
    go (inr y) =
        let same : x ∷ before_first is_equals_sign xs ≡ a ∷ m = sym (before_later is_equals_sign x xs y) ∙ e in
        let heads : x ≡ a = ap (head_or x) same in
        (xs, ap (λ z. z ∷ xs) heads, sym (ap is_equals_sign heads) ∙ y, ap tail_of same)

-- the option in one word, as a long option
pub long_whole : (w m : List ℕ) → has_value w ≡ true → before_first is_equals_sign w ≡ dashed m → long_of w ≡ Some (m, Some (after_first is_equals_sign w))
long_whole w m has e = go (before_cons w 45 (45 ∷ m) e)
  where
    inner : (t : List ℕ) → w ≡ dashed t → before_first is_equals_sign t ≡ m → list_any is_equals_sign t ≡ true → long_of w ≡ Some (m, Some (after_first is_equals_sign w))
    inner [] is before any = absurd (true≢false (sym any))
    inner (x ∷ xs) is before any =
        let after : after_first is_equals_sign (dashed (x ∷ xs)) ≡ after_first is_equals_sign (x ∷ xs) =
        after_later is_equals_sign 45 (45 ∷ x ∷ xs) refl ∙ after_later is_equals_sign 45 (x ∷ xs) refl in
        ap long_of is ∙ ap (λ b. Some (before_first is_equals_sign (x ∷ xs), cond b (Some (after_first is_equals_sign (x ∷ xs))) None)) any
        ∙ ap₂ (λ (a b : List ℕ). Some (a, Some b)) before (sym after) ∙ ap (λ u. Some (m, Some (after_first is_equals_sign u))) (sym is)

    second : (u : List ℕ) → w ≡ 45 ∷ u → (t : List ℕ) × (u ≡ 45 ∷ t) × (is_equals_sign 45 ≡ false) × (before_first is_equals_sign t ≡ m) → long_of w ≡ Some (m, Some (after_first is_equals_sign w))
    second u is (t, more, none, before) =
        let whole : w ≡ dashed t = is ∙ ap (λ v. 45 ∷ v) more in
        inner t whole before (sym (any_below is_equals_sign (dashed t)) ∙ sym (ap has_value whole) ∙ has)

    go : (t : List ℕ) × (w ≡ 45 ∷ t) × (is_equals_sign 45 ≡ false) × (before_first is_equals_sign t ≡ 45 ∷ m) → long_of w ≡ Some (m, Some (after_first is_equals_sign w))
    go (u, is, none, before) = second u is (before_cons u 45 m before)

-- a word of two hyphens and a name
pub long_named : (w m : List ℕ) → has_value w ≡ false → w ≡ dashed m → bytes_eq w (45 ∷ 45 ∷ []) ≡ false → long_of w ≡ Some (m, None)
long_named w m has is plain =
    let some : m ≢ [] = λ e. true≢false (sym ((bytes_eq-Decides w (45 ∷ 45 ∷ [])).1 (is ∙ ap dashed e)) ∙ plain) in
    ap long_of is ∙ named_long m some (sym (any_below is_equals_sign (dashed m)) ∙ sym (ap has_value is) ∙ has)
