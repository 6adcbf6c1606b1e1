use Rattle.object_store.specs.Parts.{unset_all_in}
use Rattle.object_store.proofs.PartFacts.{restaged_if, unchanged_if}
use Rattle.object_store.proofs.staging.unset_all_at.Goals as goal

pub returns-clause-changes : goal.returns-clause-changes
returns-clause-changes c =
    restaged_if c.unset_all.result c.args.slots.now c.args.h unset_all_in c.in-Some.slot.now c.unset_all.new.self c.in-Some.ensures.value c.unset_all.ensures.part c.unset_all.ensures.counts

pub returns-clause-err : goal.returns-clause-err
returns-clause-err c = unchanged_if c.unset_all.result c.args.slots.now c.args.h c.in-Some.slot.now c.unset_all.new.self c.in-Some.ensures.value c.unset_all.ensures.err
