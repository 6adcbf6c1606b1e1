-- What the faults of `clap` say of the options.
use Rattle.std.proofs.Common.{◌≡◌, ◌≢◌, ◌∙◌, ◌⊎◌, inl, inr, Bool, List, [], ◌∷◌, map, Option, Some, None, true, false, true≢false, not, cond, refl, sym, ap, ap₂, ◌||◌, ◌&&◌, subst, nat_lt, length}
use Rattle.std.specs.Prelude.{◌==◌}
use Rattle.std.specs.Str.{bytes_eq}
use Rattle.std.proofs.lemmas.Bool.{cases_Bool}
use Rattle.std.proofs.lemmas.Slice.Eq.{bytes_eq-Decides}
use Rattle.clap.specs.Lexer.{strip_byte}
use Rattle.clap.specs.Walk.{Row, Text, arg_by_id}
use Rattle.clap.specs.Simple.{matches_of}
use Rattle.clap.specs.Faults.{fault_of}
use Rattle.command_words.specs.Options.{are_taken, has_value, options_of, whole_option}
use Rattle.command_words.specs.Reading.{app_with, are_plain, built_rule, dashed, is_named, is_plain, rows_in}
use Rattle.command_words.proofs.TurnFacts.{dashes}
use Rattle.command_words.proofs.CutFacts.{none_some}
use Rattle.command_words.proofs.AppFacts.{faults_are, matches_are}
use Rattle.command_words.proofs.BridgeFacts.{taken_is_good}
use Rattle.command_words.proofs.ReadFacts.{ArePlain, Good, clears_all, finds_all, has_dashes, named_first, named_last, whole_first}

plain_value_is : (v : Text) → is_plain v ≡ true → strip_byte 45 v ≡ None
plain_value_is [] e = refl
plain_value_is (x ∷ xs) e = ap (λ b. cond b (Some xs) None) (not_true (x == 45) e)
  where
    not_true : (b : Bool) → not b ≡ true → b ≡ false
    not_true true e = absurd (true≢false (sym e))
    not_true false e = refl

and_parts : (a b : Bool) → (a && b) ≡ true → (a ≡ true) × (b ≡ true)
and_parts true b e = (refl, e)
and_parts false b e = absurd (true≢false (sym e))

module _ (names : List Text) where
  pub plain_values : (options : List (Text × Option Text)) → are_plain options ≡ true → ArePlain names options
  plain_values [] e = tt
  plain_values ((n, None) ∷ rest) e = plain_values rest e
  plain_values ((n, Some v) ∷ rest) e =
      let parts = and_parts (is_plain v) (are_plain rest) e in
      (plain_value_is v parts.0, plain_values rest parts.1)

no_rule : (names : List Text) → is_named names ≡ true → arg_by_id (map built_rule names) [] ≡ None
no_rule [] e = refl
no_rule ([] ∷ ns) e = absurd (true≢false (sym e))
no_rule ((x ∷ xs) ∷ ns) e = no_rule ns (and_parts (nat_lt 0 (length (x ∷ xs))) (is_named ns) e).1

module _ (names : List Text) (named : is_named names ≡ true) where
  not_dashes : (word m : Text) → word ≡ dashed m → arg_by_id (map built_rule names) m ≡ Some (built_rule m) → bytes_eq word dashes ≡ false
  not_dashes word [] is known = absurd (none_some (sym (no_rule names named) ∙ known))
  not_dashes word (x ∷ xs) is known = ap (λ w. bytes_eq w dashes) is

  plain_no_dashes : (v : Text) → strip_byte 45 v ≡ None → bytes_eq v dashes ≡ false
  plain_no_dashes v e = go (cases_Bool (bytes_eq v dashes))
    where
      go : (bytes_eq v dashes ≡ true) ⊎ (bytes_eq v dashes ≡ false) → bytes_eq v dashes ≡ false
      go (inl y) = absurd (none_some (sym e ∙ ap (strip_byte 45) ((bytes_eq-Decides v dashes).0 y)))
      go (inr y) = y

  valued_no_dashes : (v : Text) → has_value v ≡ true → bytes_eq v dashes ≡ false
  valued_no_dashes v e = go (cases_Bool (bytes_eq v dashes))
    where
      go : (bytes_eq v dashes ≡ true) ⊎ (bytes_eq v dashes ≡ false) → bytes_eq v dashes ≡ false
      go (inl y) = absurd (true≢false (sym e ∙ ap has_value ((bytes_eq-Decides v dashes).0 y)))
      go (inr y) = y

  abbrev Lacks : List Text → Type 0
  Lacks words = (rows : List Row) → Good names rows (options_of words) → ArePlain names (options_of words) → has_dashes names words ≡ false

  lacks_whole : (word : Text) (rest : List Text) → has_value word ≡ true → Lacks rest → Lacks (word ∷ rest)
  lacks_whole word rest has more rows good plain =
      let options : options_of (word ∷ rest) ≡ whole_option word ∷ options_of rest = whole_first word rest has in
      let g : Good names rows (whole_option word ∷ options_of rest) = subst (Good names rows) options good in
      let v = subst (ArePlain names) options plain in
      ap (λ b. b || has_dashes names rest) (valued_no_dashes word has) ∙ more _ g.4 v.1

  lacks_one : (word : Text) → Lacks (word ∷ [])
  lacks_one word rows good plain = go (cases_Bool (has_value word))
    where
      go : (has_value word ≡ true) ⊎ (has_value word ≡ false) → has_dashes names (word ∷ []) ≡ false
      go (inl has) = lacks_whole word [] has (λ _ _ _. refl) rows good plain
      go (inr lacks) = absurd (subst (Good names rows) (named_last word lacks) good)

  lacks_two : (word next : Text) (rest : List Text) → Lacks (next ∷ rest) → Lacks rest → Lacks (word ∷ next ∷ rest)
  lacks_two word next rest one two rows good plain = go (cases_Bool (has_value word))
    where
      go : (has_value word ≡ true) ⊎ (has_value word ≡ false) → has_dashes names (word ∷ next ∷ rest) ≡ false
      go (inl has) = lacks_whole word (next ∷ rest) has one rows good plain
      go (inr lacks) =
          let options : options_of (word ∷ next ∷ rest) ≡ (word, Some next) ∷ options_of rest = named_first word next rest lacks in
          let g : Good names rows ((word, Some next) ∷ options_of rest) = subst (Good names rows) options good in
          let v : ArePlain names ((word, Some next) ∷ options_of rest) = subst (ArePlain names) options plain in
          ap₂ (λ a b. a || (b || has_dashes names rest)) (not_dashes word g.0 g.1 g.2) (plain_no_dashes next v.0) ∙ two _ g.4 v.1

  lacks_all : (words : List Text) → Lacks words
  lacks_all [] rows good plain = refl
  lacks_all (word ∷ []) rows good plain = lacks_one word rows good plain
  lacks_all (word ∷ next ∷ rest) rows good plain = lacks_two word next rest (lacks_all (next ∷ rest)) (lacks_all rest) rows good plain

  -- two hyphens alone are in no options with plain values
  pub dashes_refused : (words : List Text) → has_dashes names words ≡ true → (are_taken (map dashed names) (options_of words) && are_plain (options_of words)) ≡ false
  dashes_refused words has = go (cases_Bool (are_taken (map dashed names) (options_of words) && are_plain (options_of words)))
    where
      go : ((are_taken (map dashed names) (options_of words) && are_plain (options_of words)) ≡ true) ⊎ ((are_taken (map dashed names) (options_of words) && are_plain (options_of words)) ≡ false)
          → (are_taken (map dashed names) (options_of words) && are_plain (options_of words)) ≡ false
      go (inl y) =
          let parts = and_parts (are_taken (map dashed names) (options_of words)) (are_plain (options_of words)) y in
          absurd (true≢false (sym has ∙ lacks_all words [] (taken_is_good names (options_of words) parts.0) (plain_values names (options_of words) parts.1)))
      go (inr y) = y

module _ (names : List Text) where
  -- no fault: the options are good, and the matches are theirs
  pub taken_found : (words : List Text) → has_dashes names words ≡ false → fault_of (app_with names) words ≡ []
      → Good names [] (options_of words) × (matches_of (app_with names) words ≡ rows_in (options_of words))
  taken_found words none clear =
      let found = finds_all names words [] None [] (λ _. refl) none ((faults_are names words).0 clear) in
      (found.1, matches_are names words ∙ found.2)

  -- a fault: the options are not taken, or a value is not plain
  pub fault_refused : (words : List Text) → has_dashes names words ≡ false → fault_of (app_with names) words ≢ []
      → (are_taken (map dashed names) (options_of words) && are_plain (options_of words)) ≡ false
  fault_refused words none fault = go (cases_Bool (are_taken (map dashed names) (options_of words) && are_plain (options_of words)))
    where
      go : ((are_taken (map dashed names) (options_of words) && are_plain (options_of words)) ≡ true) ⊎ ((are_taken (map dashed names) (options_of words) && are_plain (options_of words)) ≡ false)
          → (are_taken (map dashed names) (options_of words) && are_plain (options_of words)) ≡ false
      go (inl y) =
          let parts = and_parts (are_taken (map dashed names) (options_of words)) (are_plain (options_of words)) y in
          absurd (fault ((faults_are names words).1 (clears_all names words [] None [] refl refl none (taken_is_good names (options_of words) parts.0)
          (plain_values names (options_of words) parts.1))))
      go (inr y) = y
