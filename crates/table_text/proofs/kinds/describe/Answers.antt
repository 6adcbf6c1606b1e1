use Rattle.std.proofs.Common.{ap, ◌∙◌}
use Rattle.std.specs.List.{flat_map}
use Rattle.std.proofs.lemmas.List.{take_all}
use Rattle.dev_types.specs.DataTypes.{types_in_order}
use Rattle.table_text.specs.Tables.{description, type_kinds_text}
use Rattle.table_text.proofs.TableFacts.{written_next}
use Rattle.table_text.proofs.kinds.describe.Goals as goal

pub loop-i-preserved : goal.loop-i-preserved
loop-i-preserved c =
    written_next type_kinds_text types_in_order c.loop-i.i c.type_at.result c.loop-i.out.items c.push_type.new.out.items c.type_at.ensures c.loop-i.invariant c.in_ok-push_type.ensures

pub returns : goal.returns
unfolding description
returns c = c.loop-i.invariant ∙ ap (flat_map type_kinds_text) (take_all c.loop-i.i types_in_order c.loop-i-test.false)
