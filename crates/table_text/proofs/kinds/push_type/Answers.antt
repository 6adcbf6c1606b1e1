use Rattle.std.proofs.Common.{ap, ◌∙◌}
use Rattle.std.specs.List.{list_all}
use Rattle.dev_types.specs.Bounded.{is_name}
use Rattle.table_text.proofs.TableFacts.{named_at}
use Rattle.table_text.proofs.kinds.push_type.Goals as goal

pub push_subtype-requires : goal.push_subtype-requires
push_subtype-requires c =
    named_at c.subtypes_of-subtypes.result.now c.loop-i.i _ c.loop-i-test.true (ap (list_all is_name) c.subtypes_of-subtypes.ensures.value ∙ c.subtypes_of-subtypes.ensures.names)
