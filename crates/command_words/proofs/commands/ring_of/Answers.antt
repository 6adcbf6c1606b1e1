use Rattle.std.proofs.Common.{rules, ◌≡◌, ◌∙◌, Err, Some, ap, sym, map, string_bytes, codes, [], ◌∷◌, ◌&&◌, true, refl}
use Rattle.clap.specs.Walk.{texts}
use Rattle.command_words.specs.Reading.{are_plain, dashed}
use Rattle.command_words.specs.Options.{are_taken, options_of, value_of}
use Rattle.command_words.specs.Commands.{needed}
use Rattle.command_words.specs.declared.commands.Command.TheVariants.{Ring}
use Rattle.command_words.proofs.CommandFacts.{same_err, three_refused}
use Rattle.command_words.proofs.commands.ring_of.Goals as goal

pub returns-in_err-values-clause-refused : goal.returns-in_err-values-clause-refused
returns-in_err-values-clause-refused c is =
    let same = same_err c.from_residual.result c.in_err-values.field-0.0 _ (search rules) is in
    let names_are : texts c.as_slice.result.now ≡ codes "slots" ∷ codes "pictures" ∷ codes "readers" ∷ [] = search rules in
    let options = options_of (map string_bytes c.args.words.now) in
    three_refused options Ring (codes "slots") (codes "pictures") (codes "readers") 2 16 1 64 1 8 (sym (ap (λ ns. are_taken (map dashed ns) options && are_plain options) names_are) ∙ c.in_err-values.ensures.refused (ap Err same))

pub returns-in-Some-Some-Some-clause-given : goal.returns-in-Some-Some-Some-clause-given
returns-in-Some-Some-Some-clause-given c =
    let options = options_of (map string_bytes c.args.words.now) in
    let values = c.in_ok-values.ensures.values in
    let names_are : texts c.as_slice.result.now ≡ codes "slots" ∷ codes "pictures" ∷ codes "readers" ∷ [] = search rules in
    let taken : are_taken (codes "--slots" ∷ codes "--pictures" ∷ codes "--readers" ∷ []) options ≡ true = sym (ap (λ ns. are_taken (map dashed ns) options) names_are) ∙ c.in_ok-values.ensures.taken in
    let slots : needed 2 16 (value_of (codes "--slots") options) ≡ Some c.in-Some-Some-Some.slots =
    ap (needed 2 16) (sym (values (codes "slots"))) ∙ sym c.number_at-slots.ensures.value ∙ c.in-Some-Some-Some.is-0 in
    let pictures : needed 1 64 (value_of (codes "--pictures") options) ≡ Some c.in-Some-Some-Some.pictures =
    ap (needed 1 64) (sym (values (codes "pictures"))) ∙ sym c.number_at-pictures.ensures.value ∙ c.in-Some-Some-Some.is-1 in
    let readers : needed 1 8 (value_of (codes "--readers") options) ≡ Some c.in-Some-Some-Some.readers =
    ap (needed 1 8) (sym (values (codes "readers"))) ∙ sym c.number_at-readers.ensures.value ∙ c.in-Some-Some-Some.is-2 in
    rw (taken, slots, pictures, readers) refl
