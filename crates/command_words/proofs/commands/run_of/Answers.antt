use Rattle.std.proofs.Common.{rules, ◌≡◌, ◌∙◌, Err, ap, sym, map, string_bytes, codes, [], ◌∷◌, ◌&&◌}
use Rattle.clap.specs.Walk.{texts}
use Rattle.command_words.specs.Reading.{are_plain, dashed}
use Rattle.command_words.specs.Options.{are_taken, options_of}
use Rattle.command_words.specs.Commands.{print_or_images, workers_or_four}
use Rattle.command_words.proofs.CommandFacts.{no_print, no_workers, run_refused, same_err}
use Rattle.command_words.proofs.commands.run_of.Goals as goal

pub returns-in_err-values-clause-refused : goal.returns-in_err-values-clause-refused
returns-in_err-values-clause-refused c is =
    let same = same_err c.from_residual.result c.in_err-values.field-0.0 _ (search rules) is in
    let names_are : texts c.as_slice.result.now ≡ codes "print" ∷ codes "workers" ∷ [] = search rules in
    let options = options_of (map string_bytes c.args.words.now) in
    run_refused options (sym (ap (λ ns. are_taken (map dashed ns) options && are_plain options) names_are) ∙ c.in_err-values.ensures.refused (ap Err same))

pub returns-in-None-clause-refused : goal.returns-in-None-clause-refused
returns-in-None-clause-refused c is =
    let options = options_of (map string_bytes c.args.words.now) in
    no_print options (ap print_or_images (sym (c.in_ok-values.ensures.values (codes "print"))) ∙ sym c.print_in.ensures ∙ c.in-None.is)

pub returns-in-None-workers_in-clause-refused : goal.returns-in-None-workers_in-clause-refused
returns-in-None-workers_in-clause-refused c is =
    let options = options_of (map string_bytes c.args.words.now) in
    no_workers options (ap workers_or_four (sym (c.in_ok-values.ensures.values (codes "workers"))) ∙ sym c.workers_in.ensures.value ∙ c.in-None-workers_in.is)
