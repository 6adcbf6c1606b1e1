-- The walk of `clap` over words finds exactly the options in them, or refuses them.
use Rattle.std.proofs.Common.{◌⊎◌, inl, inr, ◌≡◌, ◌∙◌, Bool, List, [], ◌∷◌, ◌++◌, map, Option, Some, None, true, false, refl, sym, ap, true≢false, ◌||◌, subst}
use Rattle.std.specs.Prelude.{fold}
use Rattle.std.proofs.lemmas.Bool.{cases_Bool}
use Rattle.std.proofs.lemmas.List.{append_assoc}
use Rattle.command_words.proofs.RuleFacts.{append_none}
use Rattle.std.specs.List.{list_any}
use Rattle.std.specs.Str.{bytes_eq}
use Rattle.clap.specs.Lexer.{long_of}
use Rattle.clap.specs.Walk.{Row, Rule, Text, Walk, arg_by_id, has_row, settled, settled_rows, used, walk_from, walked}
use Rattle.clap.specs.Kinds.{Kinds, or_else}
use Rattle.clap.specs.Faults.{settle_fault, turn_fault, use_fault, walk_fault}
use Rattle.std.specs.List.{after_first}
use Rattle.clap.specs.Lexer.{strip_byte}
use Rattle.command_words.proofs.CutFacts.{long_named, long_whole, no_flag}
use Rattle.command_words.proofs.TurnFacts.{once_is_free, plain_value}
use Rattle.command_words.specs.Options.{is_equals_sign, has_value, options_of, whole_option}
use Rattle.command_words.specs.Reading.{built_rule, dashed, row, rows_in}
use Rattle.command_words.proofs.CutFacts.{cut_name, cut_value, long_word_is}
use Rattle.command_words.proofs.RuleFacts.{found_rule, used_once}
use Rattle.command_words.proofs.TurnFacts.{both_none, dashes, hasty_fault, held, named_fault, named_walk, none_then, other_value, settled_rows_use, settled_use, starved, stray_fault, unknown_fault, use_is_once, valued_fault, valued_walk, waits_at, built_shape}

either : (a b : Bool) → (a || b) ≡ false → (a ≡ false) × (b ≡ false)
either true b e = absurd (true≢false e)
either false b e = (refl, e)

pub whole_first : (word : Text) (rest : List Text) → has_value word ≡ true → options_of (word ∷ rest) ≡ whole_option word ∷ options_of rest
whole_first word [] has = rw has refl
whole_first word (next ∷ rest) has = rw has refl

pub named_first : (word next : Text) (rest : List Text) → has_value word ≡ false → options_of (word ∷ next ∷ rest) ≡ (word, Some next) ∷ options_of rest
named_first word next rest has = rw has refl

pub named_last : (word : Text) → has_value word ≡ false → options_of (word ∷ []) ≡ (word, None) ∷ []
named_last word has = rw has refl

module _ (names : List Text) where
  abbrev c : List Rule
  c = map built_rule names

  -- no word is two hyphens alone
  abbrev pub has_dashes : List Text → Bool
  has_dashes words = list_any (λ w. bytes_eq w dashes) words

  -- each option has a value and one of the names, which stands before neither among the rows nor among the options
  abbrev pub Good : List Row → List (Text × Option Text) → Type 0
  Good rows [] = Unit {0}
  Good rows ((n, None) ∷ rest) = ⊥
  Good rows ((n, Some v) ∷ rest) = (m : Text) × (n ≡ dashed m) × (arg_by_id c m ≡ Some (built_rule m)) × (has_row m rows ≡ false) × Good (rows ++ row m v ∷ []) rest

  -- the walk and what it ends in have no fault
  abbrev pub IsClear : Walk → List Text → Type 0
  IsClear w words = (walk_fault (built_shape names) [] w words ≡ []) × (settle_fault c false (fold (walked c []) w words).held ≡ [])

  abbrev pub end_rows : Walk → List Text → List Row
  end_rows w words = (settled c (fold (walked c []) w words).held).rows

  clear_next : (w : Walk) (word : Text) (rest : List Text) → IsClear w (word ∷ rest) → (turn_fault (built_shape names) [] w word ≡ []) × IsClear (walked c [] w word) rest
  unfolding walk_fault
  clear_next w word rest h =
      let parts = none_then _ _ h.0 in
      (parts.0, (parts.1, h.1))

  next_clear : (w : Walk) (word : Text) (rest : List Text) → turn_fault (built_shape names) [] w word ≡ [] → IsClear (walked c [] w word) rest → IsClear w (word ∷ rest)
  unfolding walk_fault
  next_clear w word rest none h = (both_none _ _ none h.0, h.1)

  -- what a walk without a fault has found, from where no option waits for its value
  abbrev Leaves : List Row → Option (Text × List Text) → List Row → Type 0
  Leaves rows p after = settle_fault c false (held rows p) ≡ [] → settled_rows c p rows ≡ after

  abbrev Found : List Row → Option (Text × List Text) → List Row → List Text → Type 0
  Found rows p after words = (settle_fault c false (held rows p) ≡ []) × Good after (options_of words) × (end_rows (walk_from (held rows p)) words ≡ after ++ rows_in (options_of words))

  abbrev pub Finds : List Text → Type 0
  Finds words = (rows : List Row) (p : Option (Text × List Text)) (after : List Row) → Leaves rows p after → has_dashes words ≡ false
      → IsClear (walk_from (held rows p)) words → Found rows p after words

  -- `--name=value`, and what follows
  whole_known : (word n v : Text) (rest : List Text) → long_of word ≡ Some (n, Some v) → arg_by_id c n ≡ Some (built_rule n) → Finds rest → Finds (word ∷ rest)
  whole_known word n v rest long known more rows p after leaves none clear =
      let plain = either (bytes_eq word dashes) (has_dashes rest) none in
      let step = clear_next (walk_from (held rows p)) word rest clear in
      let settles : Kinds = settle_fault c false (held rows p) in
      let uses : Kinds = use_fault false (built_rule n) (v ∷ []) (settled_rows c p rows) in
      let both : or_else settles uses ≡ [] = (none_then (or_else settles uses) [] (sym (valued_fault names rows p word n v plain.0 long known) ∙ step.0)).0 in
      let faults = none_then settles uses both in
      let settled_is : settled_rows c p rows ≡ after = leaves faults.0 in
      let once : has_row n (settled_rows c p rows) ≡ false = use_is_once names n v (settled_rows c p rows) faults.1 in
      let used_is : used (built_rule n) (v ∷ []) (settled_rows c p rows) ≡ after ++ row n v ∷ [] = used_once n v (settled_rows c p rows) once ∙ ap (λ rs. rs ++ row n v ∷ []) settled_is in
      let walk_is : walked c [] (walk_from (held rows p)) word ≡ walk_from (held (after ++ row n v ∷ []) None) =
      valued_walk names rows p word n v plain.0 long known ∙ ap (λ rs. walk_from (held rs None)) used_is in
      let ih = more (after ++ row n v ∷ []) None (after ++ row n v ∷ []) (λ _. refl) plain.1 (subst (λ w. IsClear w rest) walk_is step.1) in
      let word_is = long_word_is word (n, Some v) long in
      let cut = cut_value word_is.0 n v word_is.2 in
      let options : options_of (word ∷ rest) ≡ (dashed n, Some v) ∷ options_of rest =
      whole_first word rest (ap has_value word_is.1 ∙ cut.0) ∙ ap (λ o. o ∷ options_of rest) (ap whole_option word_is.1 ∙ cut.1) in
      let good : Good after ((dashed n, Some v) ∷ options_of rest) = (n, refl, known, sym (ap (has_row n) settled_is) ∙ once, ih.1) in (
        faults.0,
        subst (Good after) (sym options) good,
        ap (λ w. end_rows w rest) walk_is ∙ ih.2 ∙ append_assoc after (row n v ∷ []) (rows_in (options_of rest)) ∙ sym (ap (λ o. after ++ rows_in o) options),
      )

  -- `--name`, its value, and what follows
  named_known : (word next n : Text) (rest : List Text) → long_of word ≡ Some (n, None) → long_of next ≡ None → arg_by_id c n ≡ Some (built_rule n) → Finds rest
      → Finds (word ∷ next ∷ rest)
  named_known word next n rest long other known more rows p after leaves none clear =
      let plain = either (bytes_eq word dashes) (has_dashes (next ∷ rest)) none in
      let plain_next = either (bytes_eq next dashes) (has_dashes rest) plain.1 in
      let step = clear_next (walk_from (held rows p)) word (next ∷ rest) clear in
      let settles : settle_fault c false (held rows p) ≡ [] =
      (none_then (settle_fault c false (held rows p)) [] (sym (named_fault names rows p word n plain.0 long known) ∙ step.0)).0 in
      let r : List Row = settled_rows c p rows in
      let settled_is : r ≡ after = leaves settles in
      let left = subst (λ w. IsClear w (next ∷ rest)) (named_walk names rows p word n plain.0 long known) step.1 in
      let step_next = clear_next (waits_at (held r (Some (n, []))) n) next rest left in
      let takes = other_value names r next n plain_next.0 other known step_next.0 in
      let once : settle_fault c false (held r (Some (n, next ∷ []))) ≡ [] → has_row n r ≡ false = λ e. use_is_once names n next r (sym (settled_use names r n next known) ∙ e) in
      let ih = more r (Some (n, next ∷ [])) (after ++ row n next ∷ [])
      (λ e. settled_rows_use names r n next known ∙ used_once n next r (once e) ∙ ap (λ rs. rs ++ row n next ∷ []) settled_is) plain_next.1
      (subst (λ w. IsClear w rest) takes.1 step_next.1) in
      let word_is = long_word_is word (n, None) long in
      let cut = cut_name word_is.0 n word_is.2 in
      let options : options_of (word ∷ next ∷ rest) ≡ (dashed n, Some next) ∷ options_of rest =
      named_first word next rest (ap has_value word_is.1 ∙ cut.0) ∙ ap (λ w. (w, Some next) ∷ options_of rest) (word_is.1 ∙ ap dashed cut.1) in
      let good : Good after ((dashed n, Some next) ∷ options_of rest) = (n, refl, known, sym (ap (has_row n) settled_is) ∙ once ih.0, ih.1) in (
        settles,
        subst (Good after) (sym options) good,
        ap (λ w. end_rows w (next ∷ rest)) (named_walk names rows p word n plain.0 long known) ∙ ap (λ w. end_rows w rest) takes.1 ∙ ih.2
            ∙ append_assoc after (row n next ∷ []) (rows_in (options_of rest)) ∙ sym (ap (λ o. after ++ rows_in o) options),
      )

  -- a first word that begins no option is refused
  long_known : (word : Text) (rest : List Text) (rows : List Row) (p : Option (Text × List Text)) → has_dashes (word ∷ rest) ≡ false → IsClear (walk_from (held rows p)) (word ∷ rest)
      → (n : Text) × (v : Option Text) × (long_of word ≡ Some (n, v)) × (arg_by_id c n ≡ Some (built_rule n))
  long_known word rest rows p none clear = go (long_of word) refl
    where
      plain : bytes_eq word dashes ≡ false
      plain = (either (bytes_eq word dashes) (has_dashes rest) none).0

      turn : turn_fault (built_shape names) [] (walk_from (held rows p)) word ≡ []
      turn = (clear_next (walk_from (held rows p)) word rest clear).0

      go : (o : Option (Text × Option Text)) → long_of word ≡ o → (n : Text) × (v : Option Text) × (long_of word ≡ Some (n, v)) × (arg_by_id c n ≡ Some (built_rule n))
      go None y = absurd (stray_fault names rows p word plain y turn)
      go (Some (n, v)) y = inner (arg_by_id c n) refl
        where
          inner : (o : Option Rule) → arg_by_id c n ≡ o → (n : Text) × (v : Option Text) × (long_of word ≡ Some (n, v)) × (arg_by_id c n ≡ Some (built_rule n))
          inner None z = absurd (unknown_fault names rows p word n v plain y z turn)
          inner (Some a) z = (n, v, y, z ∙ ap (λ r. Some r) (found_rule names n a z))

  -- behind a name, where its value is to come
  named_left : (word n : Text) (rest : List Text) (rows : List Row) (p : Option (Text × List Text)) → has_dashes (word ∷ rest) ≡ false → IsClear (walk_from (held rows p)) (word ∷ rest)
      → long_of word ≡ Some (n, None) → arg_by_id c n ≡ Some (built_rule n) → IsClear (waits_at (held (settled_rows c p rows) (Some (n, []))) n) rest
  named_left word n rest rows p none clear long known =
      let plain = either (bytes_eq word dashes) (has_dashes rest) none in
      subst (λ w. IsClear w rest) (named_walk names rows p word n plain.0 long known) (clear_next (walk_from (held rows p)) word rest clear).1

  -- a name is not the last word
  named_more : (word n : Text) (rows : List Row) (p : Option (Text × List Text)) → has_dashes (word ∷ []) ≡ false → IsClear (walk_from (held rows p)) (word ∷ [])
      → long_of word ≡ Some (n, None) → arg_by_id c n ≡ Some (built_rule n) → ⊥
  named_more word n rows p none clear long known = starved names (settled_rows c p rows) n known (named_left word n [] rows p none clear long known).1

  -- no option stands where a value is to come
  value_plain : (word next n : Text) (rest : List Text) (rows : List Row) (p : Option (Text × List Text)) → has_dashes (word ∷ next ∷ rest) ≡ false
      → IsClear (walk_from (held rows p)) (word ∷ next ∷ rest) → long_of word ≡ Some (n, None) → arg_by_id c n ≡ Some (built_rule n) → long_of next ≡ None
  value_plain word next n rest rows p none clear long known = go (long_of next) refl
    where
      plain : bytes_eq next dashes ≡ false
      plain = (either (bytes_eq next dashes) (has_dashes rest) (either (bytes_eq word dashes) (has_dashes (next ∷ rest)) none).1).0

      left : IsClear (waits_at (held (settled_rows c p rows) (Some (n, []))) n) (next ∷ rest)
      left = named_left word n (next ∷ rest) rows p none clear long known

      go : (o : Option (Text × Option Text)) → long_of next ≡ o → long_of next ≡ None
      go None y = y
      go (Some (m, v)) y = absurd (hasty_fault names (settled_rows c p rows) next n m v plain y known (clear_next (waits_at (held (settled_rows c p rows) (Some (n, []))) n) next rest left).0)

  finds_none : Finds []
  finds_none rows p after leaves none clear = (clear.1, tt, leaves clear.1 ∙ sym (append_none after))

  finds_one : (word : Text) → Finds (word ∷ [])
  finds_one word rows p after leaves none clear = go (long_known word [] rows p none clear)
    where
      go : (n : Text) × (v : Option Text) × (long_of word ≡ Some (n, v)) × (arg_by_id c n ≡ Some (built_rule n)) → Found rows p after (word ∷ [])
      go (n, None, long, known) = absurd (named_more word n rows p none clear long known)
      go (n, Some v, long, known) = whole_known word n v [] long known finds_none rows p after leaves none clear

  finds_two : (word next : Text) (rest : List Text) → Finds (next ∷ rest) → Finds rest → Finds (word ∷ next ∷ rest)
  finds_two word next rest one two rows p after leaves none clear = go (long_known word (next ∷ rest) rows p none clear)
    where
      go : (n : Text) × (v : Option Text) × (long_of word ≡ Some (n, v)) × (arg_by_id c n ≡ Some (built_rule n)) → Found rows p after (word ∷ next ∷ rest)
      go (n, None, long, known) =
          named_known word next n rest long (value_plain word next n rest rows p none clear long known) known two rows p after leaves none clear
      go (n, Some v, long, known) = whole_known word n v (next ∷ rest) long known one rows p after leaves none clear

  pub finds_all : (words : List Text) → Finds words
  finds_all [] = finds_none
  finds_all (word ∷ []) = finds_one word
  finds_all (word ∷ next ∷ rest) = finds_two word next rest (finds_all (next ∷ rest)) (finds_all rest)

  -- ---- options with values that begin with no hyphen are taken

  abbrev pub ArePlain : List (Text × Option Text) → Type 0
  ArePlain [] = Unit {0}
  ArePlain ((n, None) ∷ rest) = ArePlain rest
  ArePlain ((n, Some v) ∷ rest) = (strip_byte 45 v ≡ None) × ArePlain rest

  abbrev pub Clears : List Text → Type 0
  Clears words = (rows : List Row) (p : Option (Text × List Text)) (after : List Row) → settle_fault c false (held rows p) ≡ [] → settled_rows c p rows ≡ after
      → has_dashes words ≡ false → Good after (options_of words) → ArePlain (options_of words) → IsClear (walk_from (held rows p)) words

  clears_none : Clears []
  unfolding walk_fault
  clears_none rows p after settles settled_is none good plain = (refl, settles)

  whole_clears : (word m v : Text) (rest : List Text) → long_of word ≡ Some (m, Some v) → arg_by_id c m ≡ Some (built_rule m) → Clears rest
      → (rows : List Row) (p : Option (Text × List Text)) (after : List Row) → settle_fault c false (held rows p) ≡ [] → settled_rows c p rows ≡ after
      → has_dashes (word ∷ rest) ≡ false → has_row m after ≡ false → Good (after ++ row m v ∷ []) (options_of rest) → ArePlain (options_of rest) → IsClear (walk_from (held rows p)) (word ∷ rest)
  whole_clears word m v rest long known more rows p after settles settled_is none once good plain =
      let parts = either (bytes_eq word dashes) (has_dashes rest) none in
      let here : has_row m (settled_rows c p rows) ≡ false = ap (has_row m) settled_is ∙ once in
      let used_is : used (built_rule m) (v ∷ []) (settled_rows c p rows) ≡ after ++ row m v ∷ [] = used_once m v (settled_rows c p rows) here ∙ ap (λ rs. rs ++ row m v ∷ []) settled_is in
      let walk_is : walked c [] (walk_from (held rows p)) word ≡ walk_from (held (after ++ row m v ∷ []) None) =
      valued_walk names rows p word m v parts.0 long known ∙ ap (λ rs. walk_from (held rs None)) used_is in
      let uses : Kinds = use_fault false (built_rule m) (v ∷ []) (settled_rows c p rows) in
      let turn : turn_fault (built_shape names) [] (walk_from (held rows p)) word ≡ [] = valued_fault names rows p word m v parts.0 long known
      ∙ both_none (or_else (settle_fault c false (held rows p)) uses) [] (both_none (settle_fault c false (held rows p)) uses settles (once_is_free names m v (settled_rows c p rows) here)) refl in
      next_clear (walk_from (held rows p)) word rest turn
      (subst (λ w. IsClear w rest) (sym walk_is) (more (after ++ row m v ∷ []) None (after ++ row m v ∷ []) refl refl parts.1 good plain))

  named_clears : (word next m : Text) (rest : List Text) → long_of word ≡ Some (m, None) → arg_by_id c m ≡ Some (built_rule m) → Clears rest
      → (rows : List Row) (p : Option (Text × List Text)) (after : List Row) → settle_fault c false (held rows p) ≡ [] → settled_rows c p rows ≡ after
      → has_dashes (word ∷ next ∷ rest) ≡ false → has_row m after ≡ false → strip_byte 45 next ≡ None → Good (after ++ row m next ∷ []) (options_of rest) → ArePlain (options_of rest)
      → IsClear (walk_from (held rows p)) (word ∷ next ∷ rest)
  named_clears word next m rest long known more rows p after settles settled_is none once value good plain =
      let parts = either (bytes_eq word dashes) (has_dashes (next ∷ rest)) none in
      let parts_next = either (bytes_eq next dashes) (has_dashes rest) parts.1 in
      let r : List Row = settled_rows c p rows in
      let here : has_row m r ≡ false = ap (has_row m) settled_is ∙ once in
      let turn : turn_fault (built_shape names) [] (walk_from (held rows p)) word ≡ [] = named_fault names rows p word m parts.0 long known
      ∙ both_none (settle_fault c false (held rows p)) [] settles refl in
      let flags = no_flag next value in
      let takes = plain_value names r next m parts_next.0 flags.0 flags.1 known in
      let left : IsClear (walk_from (held r (Some (m, next ∷ [])))) rest = more r (Some (m, next ∷ [])) (after ++ row m next ∷ [])
      (settled_use names r m next known ∙ once_is_free names m next r here)
      (settled_rows_use names r m next known ∙ used_once m next r here ∙ ap (λ rs. rs ++ row m next ∷ []) settled_is) parts_next.1 good plain in
      next_clear (walk_from (held rows p)) word (next ∷ rest) turn
      (subst (λ w. IsClear w (next ∷ rest)) (sym (named_walk names rows p word m parts.0 long known))
      (next_clear (waits_at (held r (Some (m, []))) m) next rest takes.0 (subst (λ w. IsClear w rest) (sym takes.1) left)))

  clears_whole : (word : Text) (rest : List Text) → has_value word ≡ true → Clears rest → Clears (word ∷ rest)
  clears_whole word rest has more rows p after settles settled_is none good plain =
      let options : options_of (word ∷ rest) ≡ whole_option word ∷ options_of rest = whole_first word rest has in
      let g : Good after (whole_option word ∷ options_of rest) = subst (Good after) options good in
      let v = subst ArePlain options plain in
      whole_clears word g.0 (after_first is_equals_sign word) rest (long_whole word g.0 has g.1) g.2 more rows p after settles settled_is none g.3 g.4 v.1

  clears_one : (word : Text) → Clears (word ∷ [])
  clears_one word rows p after settles settled_is none good plain = go (cases_Bool (has_value word))
    where
      go : (has_value word ≡ true) ⊎ (has_value word ≡ false) → IsClear (walk_from (held rows p)) (word ∷ [])
      go (inl has) = clears_whole word [] has clears_none rows p after settles settled_is none good plain
      go (inr lacks) = absurd (subst (Good after) (named_last word lacks) good)

  clears_two : (word next : Text) (rest : List Text) → Clears (next ∷ rest) → Clears rest → Clears (word ∷ next ∷ rest)
  clears_two word next rest one two rows p after settles settled_is none good plain = go (cases_Bool (has_value word))
    where
      go : (has_value word ≡ true) ⊎ (has_value word ≡ false) → IsClear (walk_from (held rows p)) (word ∷ next ∷ rest)
      go (inl has) = clears_whole word (next ∷ rest) has one rows p after settles settled_is none good plain
      go (inr lacks) =
          let options : options_of (word ∷ next ∷ rest) ≡ (word, Some next) ∷ options_of rest = named_first word next rest lacks in
          let g : Good after ((word, Some next) ∷ options_of rest) = subst (Good after) options good in
          let v : ArePlain ((word, Some next) ∷ options_of rest) = subst ArePlain options plain in
          let long : long_of word ≡ Some (g.0, None) = long_named word g.0 lacks g.1 (either (bytes_eq word dashes) (has_dashes (next ∷ rest)) none).0 in
          named_clears word next g.0 rest long g.2 two rows p after settles settled_is none g.3 v.0 g.4 v.1

  pub clears_all : (words : List Text) → Clears words
  clears_all [] = clears_none
  clears_all (word ∷ []) = clears_one word
  clears_all (word ∷ next ∷ rest) = clears_two word next rest (clears_all (next ∷ rest)) (clears_all rest)
