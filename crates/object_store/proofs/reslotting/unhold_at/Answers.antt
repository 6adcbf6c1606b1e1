use Rattle.std.proofs.Common.{◌≤◌, ap, sym, subst}
use Rattle.std.specs.Option.{option_map_or}
use Rattle.handle_table.specs.HandleMaps.{with_value as with_slot}
use Rattle.object_store.specs.Parts.{Part}
use Rattle.object_store.proofs.reslotting.unhold_at.Goals as goal

pub unhold-requires : goal.unhold-requires
unhold-requires c = subst (λ x. 1 ≤ option_map_or (λ (p : Part). p.holds) x 0) (sym c.in-Some.ensures.value) c.requires.held

pub returns : goal.returns
returns c = record { part = c.in-Some.slot.now; there = sym c.in-Some.ensures.value; changed = ap (with_slot c.args.slots.now c.args.h) c.unhold.ensures }
