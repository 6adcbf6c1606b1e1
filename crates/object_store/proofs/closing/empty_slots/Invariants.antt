use Rattle.std.proofs.Common.{◌≡◌}
use Rattle.handle_table.specs.HandleMaps.{RiseWithin}
use Rattle.object_store.proofs.closing.empty_slots.Given as goal

abbrev pub invariant-loop-h : goal.invariant-loop-h
invariant-loop-h l = RiseWithin l.h l.slots.next l.slots.entries × (l.slots.next ≡ l.initial.slots.next)
