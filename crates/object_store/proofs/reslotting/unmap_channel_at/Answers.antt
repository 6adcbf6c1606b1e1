use Rattle.std.proofs.Common.{◌+◌, ◌≡◌, ap, length, sym, subst}
use Rattle.std.specs.Option.{IfSome}
use Rattle.handle_table.specs.HandleMaps.{with_value as with_slot}
use Rattle.object_store.specs.Parts.{Part, unmap_in}
use Rattle.object_store.proofs.reslotting.unmap_channel_at.Goals as goal

pub returns-clause-changes : goal.returns-clause-changes
returns-clause-changes c = record { part = c.in-Some.slot.now; there = sym c.in-Some.ensures.value; changed = ap (with_slot c.args.slots.now c.args.h) c.unmap_channel.ensures.part }

pub returns-clause-count : goal.returns-clause-count
returns-clause-count c =
    subst (λ x. IfSome x (λ (p : Part). c.unmap_channel.result + length (unmap_in c.args.number p).channels ≡ length p.channels)) c.in-Some.ensures.value
    (subst (λ (q : Part). c.unmap_channel.result + length q.channels ≡ length c.in-Some.slot.now.channels) c.unmap_channel.ensures.part c.unmap_channel.ensures.count)
