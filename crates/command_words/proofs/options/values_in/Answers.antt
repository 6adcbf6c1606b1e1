use Rattle.std.proofs.Common.{◌≡◌, ◌∙◌, List, [], ◌∷◌, map, false, string_bytes, ◌||◌, refl, sym, ap}
use Rattle.std.specs.Prelude.{String}
use Rattle.std.specs.Global.{Global}
use Rattle.std.specs.List.{list_any}
use Rattle.std.specs.Str.{bytes_eq}
use Rattle.std.proofs.lemmas.Result.{IfOk-weaker}
use Rattle.clap.specs.Walk.{Text, first_of, texts}
use Rattle.clap.specs.Words.{found_of}
use Rattle.clap.proofs.WalkLemmas.{first_value-rows}
use Rattle.command_words.specs.Options.{options_of}
use Rattle.command_words.proofs.TurnFacts.{dashes}
use Rattle.command_words.proofs.ReadFacts.{has_dashes}
use Rattle.command_words.proofs.BridgeFacts.{good_taken, value_found}
use Rattle.command_words.proofs.FinalFacts.{dashes_refused, fault_refused, taken_found}
use Rattle.command_words.proofs.options.values_in.Goals as goal

dashes_in : (names : List Text) (words : List (String Global)) → list_any (λ w. bytes_eq (string_bytes w) dashes) words ≡ has_dashes names (map string_bytes words)
dashes_in names [] = refl
dashes_in names (w ∷ ws) = ap (λ b. bytes_eq (string_bytes w) dashes || b) (dashes_in names ws)

pub returns-then-has_dashes-clause-refused : goal.returns-then-has_dashes-clause-refused
returns-then-has_dashes-clause-refused c is =
    let names = texts c.args.names.now in
    dashes_refused names c.requires.named (map string_bytes c.args.words.now) (sym (dashes_in names c.args.words.now) ∙ sym c.has_dashes.ensures ∙ c.if-has_dashes.true)

pub returns-clause-taken : goal.returns-clause-taken
returns-clause-taken c =
    let names = texts c.args.names.now in
    let words = map string_bytes c.args.words.now in
    let none : has_dashes names words ≡ false = sym (dashes_in names c.args.words.now) ∙ sym c.has_dashes.ensures ∙ c.if-has_dashes.false in
    IfOk-weaker c.matches_in.result _ _ (λ m h. good_taken names [] (options_of words) (taken_found names words none h.0).0) c.matches_in.ensures.found

pub returns-clause-values : goal.returns-clause-values
returns-clause-values c =
    let names = texts c.args.names.now in
    let words = map string_bytes c.args.words.now in
    let none : has_dashes names words ≡ false = sym (dashes_in names c.args.words.now) ∙ sym c.has_dashes.ensures ∙ c.if-has_dashes.false in
    IfOk-weaker c.matches_in.result _ _ (λ m h name.
    let found = taken_found names words none h.0 in
    first_value-rows (found_of m) name ∙ ap (first_of name) (h.1 ∙ found.1) ∙ value_found names name [] (options_of words) found.0) c.matches_in.ensures.found

pub returns-clause-refused : goal.returns-clause-refused
returns-clause-refused c is =
    let names = texts c.args.names.now in
    let words = map string_bytes c.args.words.now in
    let none : has_dashes names words ≡ false = sym (dashes_in names c.args.words.now) ∙ sym c.has_dashes.ensures ∙ c.if-has_dashes.false in
    fault_refused names words none (c.matches_in.ensures.refused is)
