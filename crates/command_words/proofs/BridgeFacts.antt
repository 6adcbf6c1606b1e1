-- What the walk finds, as the options say it.
use Rattle.std.proofs.Common.{◌≡◌, ◌∙◌, ◌⊎◌, inl, inr, ℕ, Bool, List, [], ◌∷◌, ◌++◌, map, Option, Some, None, true, false, true≢false, not, cond, refl, sym, ap, ap₂, ◌||◌, ◌&&◌, drop}
use Rattle.std.specs.Prelude.{unwrap_or}
use Rattle.std.specs.List.{list_any}
use Rattle.std.specs.Map.{lookup}
use Rattle.std.specs.Str.{bytes_eq}
use Rattle.std.proofs.lemmas.Bool.{cases_Bool}
use Rattle.std.proofs.lemmas.Slice.Eq.{bytes_eq-Decides}
use Rattle.clap.specs.Lexer.{strip_byte}
use Rattle.clap.specs.Walk.{Row, Text, arg_by_id, first_of, has_row}
use Rattle.command_words.specs.Options.{are_taken, is_given, value_of}
use Rattle.command_words.specs.Reading.{built_rule, dashed, row, rows_in}
use Rattle.command_words.proofs.CutFacts.{none_some}
use Rattle.command_words.proofs.ReadFacts.{ArePlain, Good}

abbrev Options : Type 0
Options = List (Text × Option Text)

abbrev tail_from : ℕ → Text → Text
tail_from k xs = drop k xs

undashed : (m n : Text) → dashed m ≡ dashed n → m ≡ n
undashed m n e = ap (drop 2) e

has_same : (m : Text) (rows : List Row) (v : Text) → has_row m (rows ++ row m v ∷ []) ≡ true
has_same m [] v = ap (λ b. b || false) ((bytes_eq-Decides m m).1 refl)
has_same m (r ∷ rs) v = ap (λ b. bytes_eq r.id m || b) (has_same m rs v) ∙ or_true (bytes_eq r.id m)
  where
    or_true : (b : Bool) → (b || true) ≡ true
    or_true true = refl
    or_true false = refl

has_more : (m : Text) (rows new : List Row) → has_row m rows ≡ true → has_row m (rows ++ new) ≡ true
has_more m [] new e = absurd (true≢false (sym e))
has_more m (r ∷ rs) new e = go (cases_Bool (bytes_eq r.id m)) (has_more m rs new)
  where
    go : (bytes_eq r.id m ≡ true) ⊎ (bytes_eq r.id m ≡ false) → (has_row m rs ≡ true → has_row m (rs ++ new) ≡ true) → has_row m (r ∷ rs ++ new) ≡ true
    go (inl y) more = ap (λ b. b || has_row m (rs ++ new)) y
    go (inr y) more = ap (λ b. b || has_row m (rs ++ new)) y ∙ more (sym (ap (λ b. b || has_row m rs) y) ∙ e)

has_none : (m : Text) (rows : List Row) (n v : Text) → has_row m rows ≡ false → bytes_eq n m ≡ false → has_row m (rows ++ row n v ∷ []) ≡ false
has_none m [] n v e f = ap (λ b. b || false) f
has_none m (r ∷ rs) n v e f = go (cases_Bool (bytes_eq r.id m)) (has_none m rs n v)
  where
    go : (bytes_eq r.id m ≡ true) ⊎ (bytes_eq r.id m ≡ false) → (has_row m rs ≡ false → bytes_eq n m ≡ false → has_row m (rs ++ row n v ∷ []) ≡ false)
        → has_row m (r ∷ rs ++ row n v ∷ []) ≡ false
    go (inl y) more = absurd (true≢false (sym (ap (λ b. b || has_row m rs) y) ∙ e))
    go (inr y) more = ap (λ b. b || has_row m (rs ++ row n v ∷ [])) y ∙ more (sym (ap (λ b. b || has_row m rs) y) ∙ e) f

-- a name's rule is there where the name is
pub known_any : (names : List Text) (m : Text) → arg_by_id (map built_rule names) m ≡ Some (built_rule m) → list_any (bytes_eq (dashed m)) (map dashed names) ≡ true
known_any [] m e = absurd (none_some e)
known_any (n ∷ ns) m e = go (cases_Bool (bytes_eq n m)) (known_any ns m)
  where
    go : (bytes_eq n m ≡ true) ⊎ (bytes_eq n m ≡ false) → (arg_by_id (map built_rule ns) m ≡ Some (built_rule m) → list_any (bytes_eq (dashed m)) (map dashed ns) ≡ true)
        → list_any (bytes_eq (dashed m)) (map dashed (n ∷ ns)) ≡ true
    go (inl y) more = ap (λ b. b || list_any (bytes_eq (dashed m)) (map dashed ns)) ((bytes_eq-Decides (dashed m) (dashed n)).1 (ap dashed (sym ((bytes_eq-Decides n m).0 y))))
    go (inr y) more = ap (λ b. bytes_eq (dashed m) (dashed n) || b) (more (sym (ap (λ b. cond b (Some (built_rule n)) (arg_by_id (map built_rule ns) m)) y) ∙ e)) ∙ or_true (bytes_eq (dashed m) (dashed n))
      where
        or_true : (b : Bool) → (b || true) ≡ true
        or_true true = refl
        or_true false = refl

any_known : (names : List Text) (t : Text) → list_any (bytes_eq t) (map dashed names) ≡ true → (m : Text) × (t ≡ dashed m) × (arg_by_id (map built_rule names) m ≡ Some (built_rule m))
any_known [] t e = absurd (true≢false (sym e))
any_known (n ∷ ns) t e = go (cases_Bool (bytes_eq t (dashed n))) (any_known ns t)
  where
    go : (bytes_eq t (dashed n) ≡ true) ⊎ (bytes_eq t (dashed n) ≡ false)
        → (list_any (bytes_eq t) (map dashed ns) ≡ true → (m : Text) × (t ≡ dashed m) × (arg_by_id (map built_rule ns) m ≡ Some (built_rule m)))
        → (m : Text) × (t ≡ dashed m) × (arg_by_id (map built_rule (n ∷ ns)) m ≡ Some (built_rule m))
    go (inl y) more = (n, (bytes_eq-Decides t (dashed n)).0 y, ap (λ b. cond b (Some (built_rule n)) (arg_by_id (map built_rule ns) n)) ((bytes_eq-Decides n n).1 refl))
    go (inr y) more =
        let there = more (sym (ap (λ b. b || list_any (bytes_eq t) (map dashed ns)) y) ∙ e) in
        (there.0, there.1, first (cases_Bool (bytes_eq n there.0)) there.2)
      where
        first : {m : Text} → (bytes_eq n m ≡ true) ⊎ (bytes_eq n m ≡ false) → arg_by_id (map built_rule ns) m ≡ Some (built_rule m) → arg_by_id (map built_rule (n ∷ ns)) m ≡ Some (built_rule m)
        first {m} (inl z) f = ap (λ b. cond b (Some (built_rule n)) (arg_by_id (map built_rule ns) m)) z ∙ ap (λ k. Some (built_rule k)) ((bytes_eq-Decides n m).0 z)
        first {m} (inr z) f = ap (λ b. cond b (Some (built_rule n)) (arg_by_id (map built_rule ns) m)) z ∙ f

and_parts : (a b : Bool) → (a && b) ≡ true → (a ≡ true) × (b ≡ true)
and_parts true b e = (refl, e)
and_parts false b e = absurd (true≢false (sym e))

or_parts : (a b : Bool) → (a || b) ≡ false → (a ≡ false) × (b ≡ false)
or_parts true b e = absurd (true≢false e)
or_parts false b e = (refl, e)

not_true : (b : Bool) → not b ≡ true → b ≡ false
not_true true e = absurd (true≢false (sym e))
not_true false e = refl

by_test : (b : Bool) → (b ≡ true → ⊥) → b ≡ false
by_test true h = absurd (h refl)
by_test false h = refl

given_none : (m : Text) (options : Options) → is_given (dashed m) options ≡ false → value_of (dashed m) options ≡ None
given_none m [] e = refl
given_none m ((n, v) ∷ rest) e =
    let parts = or_parts (bytes_eq (dashed m) n) (is_given (dashed m) rest) e in
    ap (λ b. unwrap_or (cond b (Some v) (lookup (bytes_eq (dashed m)) rest)) None) parts.0 ∙ given_none m rest parts.1

module _ (names : List Text) where
  -- what stands among the rows is not given again
  not_given : (m : Text) (rows : List Row) (options : Options) → has_row m rows ≡ true → Good names rows options → is_given (dashed m) options ≡ false
  not_given m rows [] has good = refl
  not_given m rows ((n, None) ∷ rest) has good = absurd good
  not_given m rows ((n, Some v) ∷ rest) has good = go (cases_Bool (bytes_eq (dashed m) n)) (not_given m (rows ++ row good.0 v ∷ []) rest (has_more m rows (row good.0 v ∷ []) has) good.4)
    where
      go : (bytes_eq (dashed m) n ≡ true) ⊎ (bytes_eq (dashed m) n ≡ false) → is_given (dashed m) rest ≡ false → is_given (dashed m) ((n, Some v) ∷ rest) ≡ false
      go (inl y) more =
          let same : m ≡ good.0 = undashed m good.0 ((bytes_eq-Decides (dashed m) n).0 y ∙ good.1) in
          absurd (true≢false (sym has ∙ ap (λ k. has_row k rows) same ∙ good.3))
      go (inr y) more = ap (λ b. b || is_given (dashed m) rest) y ∙ more

  pub good_taken : (rows : List Row) (options : Options) → Good names rows options → are_taken (map dashed names) options ≡ true
  good_taken rows [] good = refl
  good_taken rows ((n, None) ∷ rest) good = absurd good
  good_taken rows ((n, Some v) ∷ rest) good =
      let m = good.0 in
      let known : list_any (bytes_eq n) (map dashed names) ≡ true = ap (λ t. list_any (bytes_eq t) (map dashed names)) good.1 ∙ known_any names m good.2 in
      let once : is_given n rest ≡ false = ap (λ t. is_given t rest) good.1 ∙ not_given m (rows ++ row m v ∷ []) rest (has_same m rows v) good.4 in
      ap₂ (λ a b. a && (not b && are_taken (map dashed names) rest)) known once ∙ good_taken (rows ++ row m v ∷ []) rest good.4

  -- no option stands among the rows
  abbrev AreNew : List Row → Options → Type 0
  AreNew rows [] = Unit {0}
  AreNew rows ((n, v) ∷ rest) = (has_row (drop 2 n) rows ≡ false) × AreNew rows rest

  still_new : (m v : Text) (rows : List Row) (options : Options) → are_taken (map dashed names) options ≡ true → is_given (dashed m) options ≡ false → AreNew rows options
      → AreNew (rows ++ row m v ∷ []) options
  still_new m v rows [] taken none new = tt
  still_new m v rows ((n, None) ∷ rest) taken none new = absurd (true≢false (sym taken))
  still_new m v rows ((n, Some x) ∷ rest) taken none new =
      let first = and_parts (list_any (bytes_eq n) (map dashed names)) (not (is_given n rest) && are_taken (map dashed names) rest) taken in
      let second = and_parts (not (is_given n rest)) (are_taken (map dashed names) rest) first.1 in
      let others = or_parts (bytes_eq (dashed m) n) (is_given (dashed m) rest) none in
      let known = any_known names n first.0 in
      let apart : bytes_eq m (drop 2 n) ≡ false = by_test (bytes_eq m (drop 2 n)) (λ y.
      true≢false (sym ((bytes_eq-Decides (dashed m) n).1 (ap dashed ((bytes_eq-Decides m (drop 2 n)).0 y ∙ ap (drop 2) known.1) ∙ sym known.1)) ∙ others.0)) in
      (has_none (drop 2 n) rows m v new.0 apart, still_new m v rows rest second.1 others.1 new.1)

  pub taken_good : (rows : List Row) (options : Options) → are_taken (map dashed names) options ≡ true → AreNew rows options → Good names rows options
  taken_good rows [] taken new = tt
  taken_good rows ((n, None) ∷ rest) taken new = absurd (true≢false (sym taken))
  taken_good rows ((n, Some v) ∷ rest) taken new =
      let first = and_parts (list_any (bytes_eq n) (map dashed names)) (not (is_given n rest) && are_taken (map dashed names) rest) taken in
      let second = and_parts (not (is_given n rest)) (are_taken (map dashed names) rest) first.1 in
      let known = any_known names n first.0 in
      let once : is_given (dashed known.0) rest ≡ false = ap (λ t. is_given t rest) (sym known.1) ∙ not_true (is_given n rest) second.0 in (
        known.0,
        known.1,
        known.2,
        sym (ap (λ t. has_row (drop 2 t) rows) known.1) ∙ new.0,
        taken_good (rows ++ row known.0 v ∷ []) rest second.1 (still_new known.0 v rows rest second.1 once new.1),
      )

  all_new : (options : Options) → AreNew [] options
  all_new [] = tt
  all_new ((n, v) ∷ rest) = (refl, all_new rest)

  pub taken_is_good : (options : Options) → are_taken (map dashed names) options ≡ true → Good names [] options
  taken_is_good options taken = taken_good [] options taken (all_new options)

  -- the first row of a name has its value
  pub value_found : (m : Text) (rows : List Row) (options : Options) → Good names rows options → first_of m (rows_in options) ≡ value_of (dashed m) options
  value_found m rows [] good = refl
  value_found m rows ((n, None) ∷ rest) good = absurd good
  value_found m rows ((n, Some v) ∷ rest) good = go (cases_Bool (bytes_eq (drop 2 n) m)) (value_found m (rows ++ row good.0 v ∷ []) rest good.4)
    where
      n_is : drop 2 n ≡ good.0
      n_is = ap (drop 2) good.1

      go : (bytes_eq (drop 2 n) m ≡ true) ⊎ (bytes_eq (drop 2 n) m ≡ false) → first_of m (rows_in rest) ≡ value_of (dashed m) rest
          → first_of m (rows_in ((n, Some v) ∷ rest)) ≡ value_of (dashed m) ((n, Some v) ∷ rest)
      go (inl y) more =
          let same : bytes_eq (dashed m) n ≡ true = (bytes_eq-Decides (dashed m) n).1 (ap dashed (sym ((bytes_eq-Decides (drop 2 n) m).0 y) ∙ n_is) ∙ sym good.1) in
          rw (y, same) refl
      go (inr y) more =
          let apart : bytes_eq (dashed m) n ≡ false = by_test (bytes_eq (dashed m) n) (λ z.
          true≢false (sym ((bytes_eq-Decides (drop 2 n) m).1 (n_is ∙ sym (undashed m good.0 ((bytes_eq-Decides (dashed m) n).0 z ∙ good.1)))) ∙ y)) in
          rw (y, apart) more

  -- each value is plain where the value of each name is
  pub plain_options : (rows : List Row) (options : Options) → Good names rows options
      → ((m : Text) (v : Text) → arg_by_id (map built_rule names) m ≡ Some (built_rule m) → value_of (dashed m) options ≡ Some v → strip_byte 45 v ≡ None) → ArePlain names options
  plain_options rows [] good plain = tt
  plain_options rows ((n, None) ∷ rest) good plain = absurd good
  plain_options rows ((n, Some v) ∷ rest) good plain =
      let same : bytes_eq (dashed good.0) n ≡ true = (bytes_eq-Decides (dashed good.0) n).1 (sym good.1) in (
        plain good.0 v good.2 (ap (λ b. unwrap_or (cond b (Some (Some v)) (lookup (bytes_eq (dashed good.0)) rest)) None) same),
        plain_options (rows ++ row good.0 v ∷ []) rest good.4 (λ m x known is. plain m x known (later m x known is)),
      )
    where
      later : (m x : Text) → arg_by_id (map built_rule names) m ≡ Some (built_rule m) → value_of (dashed m) rest ≡ Some x → value_of (dashed m) ((n, Some v) ∷ rest) ≡ Some x
      later m x known is = go (cases_Bool (bytes_eq (dashed m) n))
        where
          go : (bytes_eq (dashed m) n ≡ true) ⊎ (bytes_eq (dashed m) n ≡ false) → value_of (dashed m) ((n, Some v) ∷ rest) ≡ Some x
          go (inl y) =
              let same : m ≡ good.0 = undashed m good.0 ((bytes_eq-Decides (dashed m) n).0 y ∙ good.1) in
              let none : is_given (dashed m) rest ≡ false = ap (λ k. is_given (dashed k) rest) same ∙ not_given good.0 (rows ++ row good.0 v ∷ []) rest (has_same good.0 rows v) good.4 in
              absurd (none_some (sym (given_none m rest none) ∙ is))
          go (inr y) = ap (λ b. unwrap_or (cond b (Some (Some v)) (lookup (bytes_eq (dashed m)) rest)) None) y ∙ is
