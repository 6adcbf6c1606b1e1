use Rattle.object_store.proofs.slots.Slot.unset_all.Goals as goal

pub returns-clause-counts : goal.returns-clause-counts
returns-clause-counts c = rw (← c.self.view_is) c.unset_all.ensures.counts
