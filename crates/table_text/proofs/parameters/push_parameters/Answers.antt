use Rattle.std.proofs.Common.{◌++◌, ap, ◌∙◌}
use Rattle.std.specs.List.{list_all}
use Rattle.dev_types.specs.Bounded.{is_name}
use Rattle.table_text.proofs.TableFacts.{all_lines, named_at}
use Rattle.table_text.proofs.parameters.push_parameters.Goals as goal

pub push_parameter-requires : goal.push_parameter-requires
push_parameter-requires c =
    named_at c.parameters_of-names.result.now c.loop-i.i _ c.loop-i-test.true (ap (list_all is_name) c.parameters_of-names.ensures.value ∙ c.parameters_of-names.ensures.names)

pub returns : goal.returns
returns c =
    c.loop-i.invariant
    ∙ ap (λ lines. c.args.out.now.items ++ lines) (all_lines c.args.kind c.parameters_of-names.result.now c.loop-i.i c.loop-i-test.false c.parameters_of-names.ensures.value)
