-- The rules of a command whose arguments are long options with one value each, and the rows that they leave.
use Rattle.std.proofs.Common.{◌≡◌, ◌∙◌, ℕ, Bool, List, [], ◌∷◌, ◌++◌, map, Some, None, true, false, cond, refl, sym, ap, true≢false, ◌⊎◌, inl, inr, ◌||◌}
use Rattle.std.specs.Str.{bytes_eq}
use Rattle.std.proofs.lemmas.Bool.{cases_Bool}
use Rattle.std.proofs.lemmas.Slice.Eq.{bytes_eq-Decides}
use Rattle.clap.specs.Walk.{Row, Rule, Text, arg_by_id, arg_by_index, arg_by_long, arg_by_short, at_row, has_row, more_values, used, without}
use Rattle.clap.specs.declared.parser.matches.ValueSource.TheVariants.{CommandLine}
use Rattle.command_words.specs.Reading.{built_rule, row}
use Rattle.command_words.proofs.CutFacts.{none_some, some_same}

or_false : (b : Bool) → (b || false) ≡ b
or_false true = refl
or_false false = refl

-- a name's rule, found by its name
pub by_name : (names : List Text) (n : Text) → arg_by_long (map built_rule names) n ≡ arg_by_id (map built_rule names) n
by_name [] n = refl
by_name (m ∷ ms) n = λ i. cond (or_false (bytes_eq m n) i) (Some (built_rule m)) (by_name ms n i)

pub found_rule : (names : List Text) (n : Text) (a : Rule) → arg_by_id (map built_rule names) n ≡ Some a → a ≡ built_rule n
found_rule [] n a e = absurd (none_some e)
found_rule (m ∷ ms) n a e = go (cases_Bool (bytes_eq m n)) (found_rule ms n a)
  where
    go : (bytes_eq m n ≡ true) ⊎ (bytes_eq m n ≡ false) → (arg_by_id (map built_rule ms) n ≡ Some a → a ≡ built_rule n) → a ≡ built_rule n
    go (inl y) more = sym (some_same (sym (ap (λ b. cond b (Some (built_rule m)) (arg_by_id (map built_rule ms) n)) y) ∙ e)) ∙ ap built_rule ((bytes_eq-Decides m n).0 y)
    go (inr y) more = more (sym (ap (λ b. cond b (Some (built_rule m)) (arg_by_id (map built_rule ms) n)) y) ∙ e)

pub no_short : (names : List Text) (x : ℕ) → arg_by_short (map built_rule names) x ≡ None
no_short [] x = refl
no_short (m ∷ ms) x = no_short ms x

pub no_position : (names : List Text) (i : ℕ) → arg_by_index (map built_rule names) i ≡ None
no_position [] i = refl
no_position (m ∷ ms) i = no_position ms i

-- where there is no such row, the new ones come behind
pub at_no_row : (id : Text) (f : Row → List Row) (missing : List Row) (rows : List Row) → has_row id rows ≡ false → at_row id f missing rows ≡ rows ++ missing
at_no_row id f missing [] none = refl
at_no_row id f missing (r ∷ rs) none = go (cases_Bool (bytes_eq r.id id)) (at_no_row id f missing rs)
  where
    go : (bytes_eq r.id id ≡ true) ⊎ (bytes_eq r.id id ≡ false) → (has_row id rs ≡ false → at_row id f missing rs ≡ rs ++ missing) → at_row id f missing (r ∷ rs) ≡ (r ∷ rs) ++ missing
    go (inl y) more = absurd (true≢false (sym (ap (λ b. b || has_row id rs) y) ∙ none))
    go (inr y) more = ap (λ b. cond b (f r ++ rs) (r ∷ at_row id f missing rs)) y ∙ ap (λ xs. r ∷ xs) (more (sym (ap (λ b. b || has_row id rs) y) ∙ none))

pub append_none : {X : Type 0} (xs : List X) → xs ++ [] ≡ xs
append_none [] = refl
append_none (x ∷ xs) = ap (λ ys. x ∷ ys) (append_none xs)

pub without_none : (id : Text) (rows : List Row) → has_row id rows ≡ false → without id rows ≡ rows
without_none id rows none = at_no_row id (λ _. []) [] rows none ∙ append_none rows

-- a first use of an option
pub used_once : (n v : Text) (rows : List Row) → has_row n rows ≡ false → used (built_rule n) (v ∷ []) rows ≡ rows ++ row n v ∷ []
used_once n v rows none =
    let kept : without n rows ≡ rows = without_none n rows none in
    let left : has_row n (without n rows) ≡ false = ap (has_row n) kept ∙ none in
    at_no_row n (more_values CommandLine (v ∷ [])) (row n v ∷ []) (without n rows) left ∙ ap (λ rs. rs ++ row n v ∷ []) kept
