use Rattle.object_store.specs.Parts.{map_in}
use Rattle.object_store.proofs.PartFacts.{reslotted_if, unchanged_if}
use Rattle.object_store.proofs.reslotting.map_channel_at.Goals as goal

pub returns-clause-ok : goal.returns-clause-ok
returns-clause-ok c = reslotted_if c.map_channel.result c.args.slots.now c.args.h (map_in c.args.channel c.args.number) c.in-Some.slot.now c.map_channel.new.self c.in-Some.ensures.value c.map_channel.ensures.ok

pub returns-clause-err : goal.returns-clause-err
returns-clause-err c = unchanged_if c.map_channel.result c.args.slots.now c.args.h c.in-Some.slot.now c.map_channel.new.self c.in-Some.ensures.value c.map_channel.ensures.err
