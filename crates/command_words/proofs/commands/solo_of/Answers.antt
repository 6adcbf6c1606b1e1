use Rattle.std.proofs.Common.{rules, ◌≡◌, ◌∙◌, Err, ap, sym, map, string_bytes, codes, [], ◌∷◌, ◌&&◌}
use Rattle.clap.specs.Walk.{texts}
use Rattle.command_words.specs.Reading.{are_plain, dashed}
use Rattle.command_words.specs.Options.{are_taken, options_of}
use Rattle.command_words.proofs.CommandFacts.{same_err, solo_refused}
use Rattle.command_words.proofs.commands.solo_of.Goals as goal

pub returns-in_err-values-clause-refused : goal.returns-in_err-values-clause-refused
returns-in_err-values-clause-refused c is =
    let same = same_err c.from_residual.result c.in_err-values.field-0.0 _ (search rules) is in
    let names_are : texts c.as_slice.result.now ≡ codes "print" ∷ [] = search rules in
    let options = options_of (map string_bytes c.args.words.now) in
    solo_refused options (sym (ap (λ ns. are_taken (map dashed ns) options && are_plain options) names_are) ∙ c.in_err-values.ensures.refused (ap Err same))
