-- What a turn of the walk makes of a word, where the command has long options with one value each.
use Rattle.std.proofs.Common.{◌≡◌, ◌≢◌, ◌∙◌, ℕ, Bool, List, [], ◌∷◌, map, Option, Some, None, true, false, cond, refl, sym, ap, true≢false, ◌⊎◌, inl, inr, codes}
use Rattle.std.specs.Prelude.{slice_get, ◌==◌, option_and_then}
use Rattle.std.proofs.lemmas.Bool.{cases_Bool}
use Rattle.std.proofs.lemmas.Slice.Eq.{bytes_eq-Decides}
use Rattle.clap.specs.Walk.{bundle_met}
use Rattle.std.specs.Str.{bytes_eq, chars}
use Rattle.clap.specs.Lexer.{long_of, short_of, short_of_rest}
use Rattle.clap.specs.Walk.{Held, Row, Rule, Text, Walk, option, arg_by_id, has_row, settled_rows, used, walk_from, walked}
use Rattle.clap.specs.Simple.{Shape, new_shape}
use Rattle.clap.specs.Kinds.{Kinds, or_else}
use Rattle.clap.specs.Faults.{settle_fault, turn_fault, use_fault, flags_fault}
use Rattle.clap.specs.declared.error.kind.ErrorKind.TheVariants as kind
use Rattle.command_words.specs.Reading.{built_rule}
use Rattle.command_words.proofs.CutFacts.{none_some, some_same}
use Rattle.command_words.proofs.RuleFacts.{by_name, found_rule, no_short, no_position}

abbrev pub dashes : Text
dashes = 45 ∷ 45 ∷ []

abbrev pub held : List Row → Option (Text × List Text) → Held
held rows p = record { rows = rows; pending = p; skip = 0 }

abbrev pub waits_at : Held → Text → Walk
waits_at h n = record { held = h; waiting = option n; position = 1; is_trailing = false; stopped = None }

abbrev pub built_shape : List Text → Shape
built_shape names = record (new_shape (codes "words")) { rules = map built_rule names; disable_help_flag = true; disable_help_subcommand = true; no_binary_name = true; is_built = true }

pub cons_not_nil : {X : Type 0} {x : X} {xs : List X} → x ∷ xs ≢ []
cons_not_nil {X} e = true≢false (ap is_cons e)
  where
    is_cons : List X → Bool
    is_cons [] = false
    is_cons (y ∷ ys) = true

pub none_then : (a b : Kinds) → or_else a b ≡ [] → (a ≡ []) × (b ≡ [])
none_then [] b e = (refl, e)
none_then (k ∷ ks) b e = absurd (cons_not_nil e)

pub both_none : (a b : Kinds) → a ≡ [] → b ≡ [] → or_else a b ≡ []
both_none a b e f = ap (λ x. or_else x b) e ∙ f

short_some : (word : Text) → short_of word ≢ Some []
short_some [] e = none_some e
short_some (x ∷ xs) e = go (cases_Bool (x == 45))
  where
    rest : (ys : List ℕ) → short_of_rest ys ≢ Some []
    rest [] f = none_some f
    rest (y ∷ ys) f = by_hyphen (cases_Bool (y == 45))
      where
        by_hyphen : ((y == 45) ≡ true) ⊎ ((y == 45) ≡ false) → ⊥
        by_hyphen (inl z) = none_some (sym (ap (λ b. cond b None (Some (y ∷ ys))) z) ∙ f)
        by_hyphen (inr z) = cons_not_nil (some_same (sym (ap (λ b. cond b None (Some (y ∷ ys))) z) ∙ f))

    go : ((x == 45) ≡ true) ⊎ ((x == 45) ≡ false) → ⊥
    go (inl z) = rest xs (sym (ap (λ b. option_and_then short_of_rest (cond b (Some xs) None)) z) ∙ e)
    go (inr z) = none_some (sym (ap (λ b. option_and_then short_of_rest (cond b (Some xs) None)) z) ∙ e)

module _ (names : List Text) where
  abbrev c : List Rule
  c = map built_rule names

  abbrev s : Shape
  s = built_shape names

  abbrev turn : Walk → Text → Kinds
  turn w word = turn_fault s [] w word

  -- `--name=value`
  pub valued_fault : (rows : List Row) (p : Option (Text × List Text)) (word n v : Text) → bytes_eq word dashes ≡ false → long_of word ≡ Some (n, Some v)
      → arg_by_id c n ≡ Some (built_rule n)
      → turn (walk_from (held rows p)) word ≡ or_else (or_else (settle_fault c false (held rows p)) (use_fault false (built_rule n) (v ∷ []) (settled_rows c p rows))) []
  valued_fault rows p word n v plain long found = rw (plain, long, by_name names n, found) refl

  pub valued_walk : (rows : List Row) (p : Option (Text × List Text)) (word n v : Text) → bytes_eq word dashes ≡ false → long_of word ≡ Some (n, Some v)
      → arg_by_id c n ≡ Some (built_rule n)
      → walked c [] (walk_from (held rows p)) word ≡ walk_from (held (used (built_rule n) (v ∷ []) (settled_rows c p rows)) None)
  unfolding walked
  valued_walk rows p word n v plain long found = rw (plain, long, by_name names n, found) refl

  -- `--name`
  pub named_fault : (rows : List Row) (p : Option (Text × List Text)) (word n : Text) → bytes_eq word dashes ≡ false → long_of word ≡ Some (n, None)
      → arg_by_id c n ≡ Some (built_rule n) → turn (walk_from (held rows p)) word ≡ or_else (settle_fault c false (held rows p)) []
  named_fault rows p word n plain long found = rw (plain, long, by_name names n, found) refl

  pub named_walk : (rows : List Row) (p : Option (Text × List Text)) (word n : Text) → bytes_eq word dashes ≡ false → long_of word ≡ Some (n, None)
      → arg_by_id c n ≡ Some (built_rule n) → walked c [] (walk_from (held rows p)) word ≡ waits_at (held (settled_rows c p rows) (Some (n, []))) n
  unfolding walked
  named_walk rows p word n plain long found = rw (plain, long, by_name names n, found) refl

  -- a name that no option has
  pub unknown_fault : (rows : List Row) (p : Option (Text × List Text)) (word n : Text) (v : Option Text) → bytes_eq word dashes ≡ false → long_of word ≡ Some (n, v)
      → arg_by_id c n ≡ None → turn (walk_from (held rows p)) word ≢ []
  unknown_fault rows p word n v plain long found e =
      let is : turn (walk_from (held rows p)) word ≡ kind.UnknownArgument ∷ [] = rw (plain, long, by_name names n, found) refl in
      cons_not_nil (sym is ∙ e)

  -- a word that is no long option, where nothing waits
  pub stray_fault : (rows : List Row) (p : Option (Text × List Text)) (word : Text) → bytes_eq word dashes ≡ false → long_of word ≡ None → turn (walk_from (held rows p)) word ≢ []
  unfolding flags_fault bundle_met
  stray_fault rows p word plain long e = go (short_of word) refl
    where
      go : (o : Option Text) → short_of word ≡ o → ⊥
      go None y =
          let is : turn (walk_from (held rows p)) word ≡ kind.UnknownArgument ∷ [] = rw (plain, long, y, no_position names 1) refl in
          cons_not_nil (sym is ∙ e)
      go (Some []) y = short_some word y
      go (Some (x ∷ xs)) y = inner (slice_get (chars (x ∷ xs)) 0) refl
        where
          inner : (o : Option ℕ) → slice_get (chars (x ∷ xs)) 0 ≡ o → ⊥
          inner None z =
              let is : turn (walk_from (held rows p)) word ≡ kind.UnknownArgument ∷ [] = rw (plain, long, y, z, no_position names 1) refl in
              cons_not_nil (sym is ∙ e)
          inner (Some d) z =
              let is : turn (walk_from (held rows p)) word ≡ kind.UnknownArgument ∷ [] = rw (plain, long, y, z, no_short names d) refl in
              cons_not_nil (sym is ∙ e)

  -- a long option, where a value is waited for
  pub hasty_fault : (rows : List Row) (word m n : Text) (v : Option Text) → bytes_eq word dashes ≡ false → long_of word ≡ Some (n, v) → arg_by_id c m ≡ Some (built_rule m)
      → turn (waits_at (held rows (Some (m, []))) m) word ≢ []
  hasty_fault rows word m n v plain long known e = go (arg_by_id c n) refl v long
    where
      go : (o : Option Rule) → arg_by_id c n ≡ o → (v : Option Text) → long_of word ≡ Some (n, v) → ⊥
      go None y v long =
          let is : turn (waits_at (held rows (Some (m, []))) m) word ≡ kind.UnknownArgument ∷ [] = rw (plain, long, by_name names n, y) refl in
          cons_not_nil (sym is ∙ e)
      go (Some a) y None long =
          let a_is : arg_by_id c n ≡ Some (built_rule n) = y ∙ ap (λ r. Some r) (found_rule names n a y) in
          let is : turn (waits_at (held rows (Some (m, []))) m) word ≡ kind.InvalidValue ∷ [] = rw (plain, long, by_name names n, a_is, known) refl in
          cons_not_nil (sym is ∙ e)
      go (Some a) y (Some x) long =
          let a_is : arg_by_id c n ≡ Some (built_rule n) = y ∙ ap (λ r. Some r) (found_rule names n a y) in
          let is : turn (waits_at (held rows (Some (m, []))) m) word ≡ kind.InvalidValue ∷ [] = rw (plain, long, by_name names n, a_is, known) refl in
          cons_not_nil (sym is ∙ e)

  -- any other word is the value
  abbrev TakesValue : List Row → Text → Text → Type 0
  TakesValue rows m word = (turn (waits_at (held rows (Some (m, []))) m) word ≡ []) × (walked c [] (waits_at (held rows (Some (m, []))) m) word ≡ walk_from (held rows (Some (m, word ∷ []))))

  pub plain_value : (rows : List Row) (word m : Text) → bytes_eq word dashes ≡ false → long_of word ≡ None → short_of word ≡ None → arg_by_id c m ≡ Some (built_rule m) → TakesValue rows m word
  unfolding walked
  plain_value rows word m plain long short known =
      let same : bytes_eq m m ≡ true = (bytes_eq-Decides m m).1 refl in
      (rw (plain, long, short) refl, rw (plain, long, short, known, same) refl)

  pub other_value : (rows : List Row) (word m : Text) → bytes_eq word dashes ≡ false → long_of word ≡ None → arg_by_id c m ≡ Some (built_rule m)
      → turn (waits_at (held rows (Some (m, []))) m) word ≡ [] → TakesValue rows m word
  unfolding flags_fault bundle_met walked
  other_value rows word m plain long known e = go (short_of word) refl
    where
      same : bytes_eq m m ≡ true
      same = (bytes_eq-Decides m m).1 refl

      go : (o : Option Text) → short_of word ≡ o → TakesValue rows m word
      go None y = plain_value rows word m plain long y known
      go (Some []) y = absurd (short_some word y)
      go (Some (x ∷ xs)) y = inner (slice_get (chars (x ∷ xs)) 0) refl
        where
          inner : (o : Option ℕ) → slice_get (chars (x ∷ xs)) 0 ≡ o → TakesValue rows m word
          inner None z = (rw (plain, long, y, z) refl, rw (plain, long, y, z, known, same) refl)
          inner (Some d) z =
              let is : turn (waits_at (held rows (Some (m, []))) m) word ≡ kind.UnknownArgument ∷ [] = rw (plain, long, y, z, no_short names d) refl in
              absurd (cons_not_nil (sym is ∙ e))

  -- ---- one use of an option

  pub use_is_once : (n v : Text) (rows : List Row) → use_fault false (built_rule n) (v ∷ []) rows ≡ [] → has_row n rows ≡ false
  use_is_once n v rows e = go (cases_Bool (has_row n rows))
    where
      go : (has_row n rows ≡ true) ⊎ (has_row n rows ≡ false) → has_row n rows ≡ false
      go (inl y) =
          let is : use_fault false (built_rule n) (v ∷ []) rows ≡ kind.ArgumentConflict ∷ [] = rw y refl in
          absurd (cons_not_nil (sym is ∙ e))
      go (inr y) = y

  pub once_is_free : (n v : Text) (rows : List Row) → has_row n rows ≡ false → use_fault false (built_rule n) (v ∷ []) rows ≡ []
  once_is_free n v rows y = rw y refl

  pub settled_use : (rows : List Row) (n v : Text) → arg_by_id c n ≡ Some (built_rule n) → settle_fault c false (held rows (Some (n, v ∷ []))) ≡ use_fault false (built_rule n) (v ∷ []) rows
  settled_use rows n v known = rw known refl

  pub settled_rows_use : (rows : List Row) (n v : Text) → arg_by_id c n ≡ Some (built_rule n) → settled_rows c (Some (n, v ∷ [])) rows ≡ used (built_rule n) (v ∷ []) rows
  settled_rows_use rows n v known = rw known refl

  pub starved : (rows : List Row) (n : Text) → arg_by_id c n ≡ Some (built_rule n) → settle_fault c false (held rows (Some (n, []))) ≢ []
  starved rows n known e =
      let is : settle_fault c false (held rows (Some (n, []))) ≡ kind.InvalidValue ∷ [] = rw known refl in
      cons_not_nil (sym is ∙ e)
