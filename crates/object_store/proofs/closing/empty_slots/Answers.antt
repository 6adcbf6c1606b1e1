use Rattle.std.proofs.Common.{◌∙◌, ◌+◌, subst, sym, arith}
use Rattle.std.specs.BTreeMap.{is_at}
use Rattle.std.specs.Map.{remove_entry}
use Rattle.std.specs.Ordering.{nat_cmp}
use Rattle.handle_table.specs.HandleMaps.{RiseWithin}
use Rattle.object_store.proofs.Emptied.{first_removed, none_left}
use Rattle.object_store.proofs.closing.empty_slots.Goals as goal

pub loop-h-preserved : goal.loop-h-preserved
loop-h-preserved c =
    let rises : RiseWithin (c.loop-h.h + 1) c.loop-h.slots.next (remove_entry (is_at (nat_cmp c.loop-h.h)) c.loop-h.slots.entries) =
    first_removed c.loop-h.h c.loop-h.slots.next c.loop-h.slots.entries c.loop-h.invariant.0 (omega (arith, c.loop-h-test.true, c.next-2.view_is, c.next.ensures.value, c.loop-h.invariant.1)) in (
      subst (λ n. RiseWithin (c.loop-h.h + 1) n c.remove-slot.new.self.entries) (sym c.remove-slot.ensures.next)
          (subst (λ es. RiseWithin (c.loop-h.h + 1) c.loop-h.slots.next es) (sym c.remove-slot.ensures.entries) rises),
      c.remove-slot.ensures.next ∙ c.loop-h.invariant.1,
    )

pub returns-clause-none : goal.returns-clause-none
returns-clause-none c =
    none_left c.loop-h.h c.loop-h.slots.next c.loop-h.slots.entries c.loop-h.invariant.0
    (omega (arith, c.loop-h-test.false, c.next-2.view_is, c.next.ensures.value, c.loop-h.invariant.1))
