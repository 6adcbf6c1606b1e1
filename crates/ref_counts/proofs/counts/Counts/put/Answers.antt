use Rattle.std.proofs.Common.{◌≡◌, ◌+◌, ◌<◌, false, length, IsSome, refl, sym, ap, ◌∙◌, arith}
use Rattle.std.specs.BTreeMap.{is_at}
use Rattle.std.specs.BinaryHeap.{heap_items, heap_capacity}
use Rattle.std.specs.Map.{lookup}
use Rattle.std.specs.Ordering.{nat_cmp}
use Rattle.ref_counts.specs.CountMaps.{counts_at}
use Rattle.ref_counts.specs.Queues.{counted, queued_of}
use Rattle.ref_counts.proofs.EntryFacts.{counted-set_value, ChangesAt-write}
use Rattle.ref_counts.proofs.QueueFacts.{room-for, Queues-write, Queues-enqueue, needs-place, needs-none, held-counted, lookup-some}
use Rattle.ref_counts.proofs.counts.Counts.put.Goals as goal

pub enqueue-requires : goal.enqueue-requires
enqueue-requires c =
    let es = c.self.inside.held.entries in
    let some : IsSome (counts_at (counted es) c.args.h) = rw (← c.self.view_is) at c.requires in
    let waits : c.is_queued.result ≡ false = needs-place (record { public = c.args.public; named = c.args.named; queued = c.is_queued.result }) (sym c.needs_place.ensures ∙ c.if-needs_place.true) in
    held-counted es c.args.h some (λ s at.
    let room : length (heap_items c.self.inside.queue) < heap_capacity c.self.inside.queue = room-for es _ _ c.args.h s c.self.invariant at (sym (c.is_queued.ensures ∙ ap queued_of at) ∙ waits) in
    omega (arith, room, c.self.inside.queue.data.ok.0))

pub invariant_of-self : goal.invariant_of-self
invariant_of-self c =
    let es = c.self.inside.held.entries in
    let some : IsSome (counts_at (counted es) c.args.h) = rw (← c.self.view_is) at c.requires in
    let waits : c.is_queued.result ≡ false = needs-place (record { public = c.args.public; named = c.args.named; queued = c.is_queued.result }) (sym c.needs_place.ensures ∙ c.if-needs_place.true) in
    let longer : length (heap_items c.enqueue.new.queue) ≡ length (heap_items c.self.inside.queue) + 1 = omega (arith, c.enqueue.ensures.len, c.self.inside.queue.data.ok.0, c.enqueue.new.queue.data.ok.0) in
    rw c.write.ensures (held-counted es c.args.h some (λ s at.
    Queues-enqueue es _ _ _ _ c.args.h _ s _ c.self.invariant at (sym (c.is_queued.ensures ∙ ap queued_of at) ∙ waits) refl refl
    c.enqueue.ensures.permutation c.enqueue.ensures.order longer c.enqueue.ensures.room))

pub invariant_of-self-else-needs_place : goal.invariant_of-self-else-needs_place
invariant_of-self-else-needs_place c =
    let es = c.self.inside.held.entries in
    let some : IsSome (counts_at (counted es) c.args.h) = rw (← c.self.view_is) at c.requires in
    rw c.write-else-needs_place.ensures (held-counted es c.args.h some (λ s at.
    Queues-write es _ _ c.args.h s _ c.self.invariant at (c.is_queued.ensures ∙ ap queued_of at) (needs-none (record { public = c.args.public; named = c.args.named; queued = c.is_queued.result }) (sym c.needs_place.ensures ∙ c.if-needs_place.false))))

pub returns-then-needs_place-clause-map : goal.returns-then-needs_place-clause-map
returns-then-needs_place-clause-map c =
    rw (← c.self.view_is) (ap counted c.write.ensures ∙ counted-set_value c.self.inside.held.entries c.args.h _)

pub returns-then-needs_place-clause-changes : goal.returns-then-needs_place-clause-changes
returns-then-needs_place-clause-changes c =
    let es = c.self.inside.held.entries in
    let some : IsSome (counts_at (counted es) c.args.h) = rw (← c.self.view_is) at c.requires in
    let born : IsSome (lookup (is_at (nat_cmp c.args.h)) es) = held-counted es c.args.h some (λ s at. lookup-some es c.args.h s at) in
    rw (← c.self.view_is, c.write.ensures) (ChangesAt-write es c.args.h _ born)

pub returns-else-needs_place-clause-map : goal.returns-else-needs_place-clause-map
returns-else-needs_place-clause-map c =
    rw (← c.self.view_is) (ap counted c.write-else-needs_place.ensures ∙ counted-set_value c.self.inside.held.entries c.args.h _)

pub returns-else-needs_place-clause-changes : goal.returns-else-needs_place-clause-changes
returns-else-needs_place-clause-changes c =
    let es = c.self.inside.held.entries in
    let some : IsSome (counts_at (counted es) c.args.h) = rw (← c.self.view_is) at c.requires in
    let born : IsSome (lookup (is_at (nat_cmp c.args.h)) es) = held-counted es c.args.h some (λ s at. lookup-some es c.args.h s at) in
    rw (← c.self.view_is, c.write-else-needs_place.ensures) (ChangesAt-write es c.args.h _ born)
