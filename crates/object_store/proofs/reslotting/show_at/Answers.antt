use Rattle.std.proofs.Common.{ap, sym}
use Rattle.handle_table.specs.HandleMaps.{with_value as with_slot}
use Rattle.object_store.proofs.reslotting.show_at.Goals as goal

pub returns : goal.returns
returns c = record { part = c.in-Some.slot.now; there = sym c.in-Some.ensures.value; changed = ap (with_slot c.args.slots.now c.args.h) c.show.ensures }
