use Rattle.object_store.specs.Parts.{lend_in}
use Rattle.object_store.proofs.PartFacts.{reslotted_if, unchanged_if}
use Rattle.object_store.proofs.reslotting.lend_at.Goals as goal

pub returns-clause-ok : goal.returns-clause-ok
returns-clause-ok c = reslotted_if c.lend.result c.args.slots.now c.args.h (lend_in c.args.loan) c.in-Some.slot.now c.lend.new.self c.in-Some.ensures.value c.lend.ensures.ok

pub returns-clause-err : goal.returns-clause-err
returns-clause-err c = unchanged_if c.lend.result c.args.slots.now c.args.h c.in-Some.slot.now c.lend.new.self c.in-Some.ensures.value c.lend.ensures.err
