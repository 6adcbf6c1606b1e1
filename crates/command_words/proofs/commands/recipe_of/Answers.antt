use Rattle.std.proofs.Common.{rules, ◌≡◌, ◌∙◌, Err, Some, ap, sym, map, string_bytes, codes, [], ◌∷◌, ◌&&◌, true, refl}
use Rattle.clap.specs.Walk.{texts}
use Rattle.command_words.specs.Reading.{are_plain, dashed}
use Rattle.command_words.specs.Options.{are_taken, options_of, value_of}
use Rattle.command_words.specs.Commands.{needed, recipe}
use Rattle.command_words.proofs.CommandFacts.{same_err, three_refused}
use Rattle.command_words.proofs.commands.recipe_of.Goals as goal

pub returns-in_err-values-clause-refused : goal.returns-in_err-values-clause-refused
returns-in_err-values-clause-refused c is =
    let same = same_err c.from_residual.result c.in_err-values.field-0.0 _ (search rules) is in
    let names_are : texts c.as_slice.result.now ≡ codes "seed" ∷ codes "callers" ∷ codes "frames" ∷ [] = search rules in
    let options = options_of (map string_bytes c.args.words.now) in
    three_refused options recipe (codes "seed") (codes "callers") (codes "frames") 0 4294967295 1 8 1 64 (sym (ap (λ ns. are_taken (map dashed ns) options && are_plain options) names_are) ∙ c.in_err-values.ensures.refused (ap Err same))

pub returns-in-Some-Some-Some-clause-given : goal.returns-in-Some-Some-Some-clause-given
returns-in-Some-Some-Some-clause-given c =
    let options = options_of (map string_bytes c.args.words.now) in
    let values = c.in_ok-values.ensures.values in
    let names_are : texts c.as_slice.result.now ≡ codes "seed" ∷ codes "callers" ∷ codes "frames" ∷ [] = search rules in
    let taken : are_taken (codes "--seed" ∷ codes "--callers" ∷ codes "--frames" ∷ []) options ≡ true = sym (ap (λ ns. are_taken (map dashed ns) options) names_are) ∙ c.in_ok-values.ensures.taken in
    let seed : needed 0 4294967295 (value_of (codes "--seed") options) ≡ Some c.in-Some-Some-Some.seed =
    ap (needed 0 4294967295) (sym (values (codes "seed"))) ∙ sym c.number_at-seed.ensures.value ∙ c.in-Some-Some-Some.is-0 in
    let callers : needed 1 8 (value_of (codes "--callers") options) ≡ Some c.in-Some-Some-Some.callers =
    ap (needed 1 8) (sym (values (codes "callers"))) ∙ sym c.number_at-callers.ensures.value ∙ c.in-Some-Some-Some.is-1 in
    let frames : needed 1 64 (value_of (codes "--frames") options) ≡ Some c.in-Some-Some-Some.frames =
    ap (needed 1 64) (sym (values (codes "frames"))) ∙ sym c.number_at-frames.ensures.value ∙ c.in-Some-Some-Some.is-2 in
    rw (taken, seed, callers, frames) refl
