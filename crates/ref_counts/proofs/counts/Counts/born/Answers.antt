use Rattle.std.proofs.Common.{◌≡◌, None, Some, ap, ◌∙◌}
use Rattle.ref_counts.specs.CountMaps.{entry_at}
use Rattle.ref_counts.specs.Queues.{counted, newborn}
use Rattle.ref_counts.proofs.EntryFacts.{counted-insert_entry, ChangesAt-insert}
use Rattle.ref_counts.proofs.QueueFacts.{lookup-unborn}
use Rattle.ref_counts.proofs.counts.Counts.born.Goals as goal

pub add-requires : goal.add-requires
add-requires c =
    let absent : entry_at (counted c.self.inside.held.entries) c.args.h ≡ None = rw (← c.self.view_is) at c.requires in
    lookup-unborn c.self.inside.held.entries c.args.h absent

pub returns-clause-born : goal.returns-clause-born
returns-clause-born c =
    rw (← c.self.view_is) (ap counted c.in_ok-add.ensures.entries ∙ counted-insert_entry c.self.inside.held.entries c.args.h (Some newborn))

pub returns-clause-changes : goal.returns-clause-changes
returns-clause-changes c =
    rw (← c.self.view_is) (ChangesAt-insert c.self.inside.held.entries c.add.new.entries.entries c.args.h (Some newborn) (λ q. c.in_ok-add.ensures.updates.0 q))
