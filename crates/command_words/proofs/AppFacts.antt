-- What `clap` makes of the whole command, from its walk.
use Rattle.std.proofs.Common.{◌≡◌, ◌∙◌, ◌↔◌, ℕ, Bool, List, [], ◌∷◌, map, Option, Some, None, true, false, not, cond, refl, sym, ap, ap₂, ◌||◌, ◌&&◌}
use Rattle.std.specs.Prelude.{fold, count_by, is_some}
use Rattle.std.specs.List.{list_any, list_all}
use Rattle.clap.specs.Walk.{Held, Row, Rule, Text, finished, has_row, is_early_multiple, nothing_held, rows_after, settled, walk, walk_from, with_default}
use Rattle.clap.specs.Simple.{App, built, entered, filled_from, is_buildable, is_ready, is_ready_leaf, is_simple, matches_of, names_of}
use Rattle.clap.specs.Kinds.{Kinds, or_else}
use Rattle.clap.specs.Faults.{check_fault, default_fault, defaults_fault, entered_fault, built_fault, given_default_fault, is_free_app, fault_of, is_simple_and_free, level_fault, settle_fault, walk_fault}
use Rattle.clap.specs.Takes.{is_given}
use Rattle.command_words.specs.Reading.{app_with, built_rule, option_rule}
use Rattle.command_words.proofs.TurnFacts.{built_shape, held, none_then, both_none}
use Rattle.command_words.proofs.ReadFacts.{IsClear, end_rows}

abbrev rules : List Text → List Rule
rules names = map built_rule names

filled_all : (i : ℕ) (names : List Text) → filled_from i (map option_rule names) ≡ rules names
filled_all i [] = refl
filled_all i (n ∷ ns) = ap (λ rs. built_rule n ∷ rs) (filled_all i ns)

abbrev app_built : List Text → App
app_built names = record { top = built_shape names; subs = [] }

built_is : (names : List Text) → built (app_with names) ≡ app_built names
built_is names = ap (λ (rs : List Rule). record (app_built names) { top = record (built_shape names) { rules = rs } }) (filled_all 1 names)

simple_rules : (names : List Text) → list_all (λ (a : Rule). a.is_simple) (rules names) ≡ true
simple_rules [] = refl
simple_rules (n ∷ ns) = simple_rules ns

simple_options : (names : List Text) → list_all (λ (a : Rule). a.is_simple) (map option_rule names) ≡ true
simple_options [] = refl
simple_options (n ∷ ns) = simple_options ns

free_rules : (names : List Text) → list_all (λ (a : Rule). a.is_free) (rules names) ≡ true
free_rules [] = refl
free_rules (n ∷ ns) = free_rules ns

none_early : (k : ℕ) (names : List Text) → list_any (is_early_multiple k) (rules names) ≡ false
none_early k [] = refl
none_early k (n ∷ ns) = none_early k ns

none_required : (rows : List Row) (names : List Text) → list_any (λ (a : Rule). a.required && not (is_given a.id rows)) (rules names) ≡ false
none_required rows [] = refl
none_required rows (n ∷ ns) = none_required rows ns

pub simple_app : (names : List Text) → is_simple (app_with names) ≡ true
simple_app names =
    let buildable : is_buildable (app_with names) ≡ true = rw (simple_options names) refl in
    let ready : (is_ready (built_shape names) && true) ≡ true = rw (simple_rules names, none_early (count_by (λ (a : Rule). is_some a.index) (rules names)) names) refl in
    ap₂ (λ (a b : Bool). a && b) buildable (ap (λ (b : App). is_ready b.top && list_all is_ready_leaf b.subs) (built_is names) ∙ ready)

pub free_app : (names : List Text) → is_simple_and_free (app_with names) ≡ true
free_app names =
    let free : (list_all (λ (a : Rule). a.is_free) (rules names) && true) ≡ true = rw (free_rules names) refl in
    ap₂ (λ (a b : Bool). a && b) (simple_app names) (ap is_free_app (built_is names) ∙ free)

or_true : (b : Bool) → (b || true) ≡ true
or_true true = refl
or_true false = refl

same_either : {X : Type 0} (b : Bool) (x : X) → cond b x x ≡ x
same_either true x = refl
same_either false x = refl

keeps_rows : (names : List Text) (rows : List Row) → fold with_default rows (rules names) ≡ rows
keeps_rows [] rows = refl
keeps_rows (n ∷ ns) rows = ap (λ rs. fold with_default rs (rules ns)) (same_either (has_row n rows) rows) ∙ keeps_rows ns rows

no_default_fault : (names : List Text) (rows : List Row) → defaults_fault rows (rules names) ≡ []
unfolding defaults_fault
no_default_fault [] rows = refl
no_default_fault (n ∷ ns) rows = both_none (default_fault rows (built_rule n)) (defaults_fault (with_default rows (built_rule n)) (rules ns))
    (ap (λ b. cond b [] (given_default_fault (built_rule n) [])) (or_true (has_row n rows))) (no_default_fault ns (with_default rows (built_rule n)))

no_check_fault : (names : List Text) (rows : List Row) → check_fault (built_shape names) rows false ≡ []
no_check_fault names rows = rw (none_required rows names) refl

-- ---- the matches and the faults of the command

pub matches_are : (names : List Text) (words : List Text) → matches_of (app_with names) words ≡ end_rows names (walk_from (held [] None)) words
matches_are names words = ap (λ (b : App). rows_after b.top.rules (names_of b) words) (built_is names) ∙ keeps_rows names (end_rows names (walk_from (held [] None)) words)

no_entry : (names : List Text) (stop : Option (Text × List Text)) → is_some (entered (app_built names) stop) ≡ false
no_entry names None = refl
no_entry names (Some p) = refl

no_entry_fault : (names : List Text) (stop : Option (Text × List Text)) → entered_fault (app_built names) stop ≡ []
no_entry_fault names None = refl
no_entry_fault names (Some p) = refl

abbrev end_of : List Text → List Text → Held
end_of names words = (walk (rules names) [] (held [] None) words).held

-- the first fault is one of the walk, or one of the option that still waits
fault_is : (names : List Text) (words : List Text) → fault_of (app_with names) words
    ≡ or_else (walk_fault (built_shape names) [] (walk_from (held [] None)) words) (or_else (settle_fault (rules names) false (end_of names words)) [])
fault_is names words =
    let stop = (walk (rules names) [] (held [] None) words).stopped in
    let ends = end_of names words in
    let s = built_shape names in
    ap (λ (b : App). built_fault b nothing_held words) (built_is names)
    ∙ ap₂ (λ (has : Bool) (below : Kinds). level_fault s [] nothing_held words has below) (no_entry names stop) (no_entry_fault names stop)
    ∙ ap₂ (λ (d : Kinds) (k : Kinds). or_else (walk_fault s [] (walk_from nothing_held) words) (or_else (settle_fault (rules names) false ends) (or_else d k)))
    (no_default_fault names (settled (rules names) ends).rows) (no_check_fault names (finished (rules names) ends))

pub faults_are : (names : List Text) (words : List Text) → (fault_of (app_with names) words ≡ []) ↔ IsClear names (walk_from (held [] None)) words
faults_are names words =
    let w = walk_fault (built_shape names) [] (walk_from (held [] None)) words in
    let e = settle_fault (rules names) false (end_of names words) in (
      λ none. let parts = none_then w (or_else e []) (sym (fault_is names words) ∙ none) in (parts.0, (none_then e [] parts.1).0),
      λ clear. fault_is names words ∙ both_none w (or_else e []) clear.0 (both_none e [] clear.1 refl),
    )
