use Rattle.std.proofs.Common.{◌≡◌, ◌+◌, length, Some, sym, ap, subst, ◌∙◌, arith}
use Rattle.std.specs.BinaryHeap.{heap_items}
use Rattle.ref_counts.specs.Queues.{counted}
use Rattle.ref_counts.specs.CountMaps.{IsLeastDead, counts_at}
use Rattle.ref_counts.proofs.QueueFacts.{Queues-bury, first-is-least, no-zeros, counted-dead, counted-alive, ChangesAt-bury}
use Rattle.ref_counts.proofs.counts.Counts.die.Goals as goal

pub invariant_of-self : goal.invariant_of-self
invariant_of-self c =
    let shorter : length (heap_items c.pop.new.self) + 1 ≡ length (heap_items c.loop-first.self-inside.queue) = omega (arith, c.in-Some.ensures.len, c.pop.new.self.data.ok.0, c.loop-first.self-inside.queue.data.ok.0) in
    rw (c.bury.ensures.entries, c.pop.ensures.capacity) (
    Queues-bury c.loop-first.self-inside.held.entries _ _ _ c.in-Some.first c.loop-first.invariant.queues
    c.in-Some.ensures.permutation (c.in-Some.ensures.heap_order c.loop-first.invariant.queues.order).0 shorter)

pub returns-then-bury-clause-least : goal.returns-then-bury-clause-least
returns-then-bury-clause-least c =
    subst (λ m. IsLeastDead m c.in-Some.first.0) c.loop-first.invariant.same (
    first-is-least c.loop-first.self-inside.held.entries _ _ _ c.in-Some.first c.loop-first.invariant.queues
    c.in-Some.ensures.permutation (c.in-Some.ensures.below_top c.loop-first.invariant.queues.order) (sym c.bury.ensures.dead ∙ c.if-bury.true))

pub returns-then-bury-clause-map : goal.returns-then-bury-clause-map
returns-then-bury-clause-map c =
    rw (← c.loop-first.invariant.same) (ap counted c.bury.ensures.entries ∙ counted-dead c.loop-first.self-inside.held.entries c.in-Some.first.0 (sym c.bury.ensures.dead ∙ c.if-bury.true))

pub returns-then-bury-clause-changes : goal.returns-then-bury-clause-changes
returns-then-bury-clause-changes c =
    rw (← c.loop-first.invariant.same, c.bury.ensures.entries) (ChangesAt-bury c.loop-first.self-inside.held.entries c.in-Some.first.0 (sym c.bury.ensures.dead ∙ c.if-bury.true))

pub loop-first-preserved : goal.loop-first-preserved
loop-first-preserved c =
    let shorter : length (heap_items c.pop.new.self) + 1 ≡ length (heap_items c.loop-first.self-inside.queue) = omega (arith, c.in-Some.ensures.len, c.pop.new.self.data.ok.0, c.loop-first.self-inside.queue.data.ok.0) in
    record {
      queues = rw (c.bury.ensures.entries, c.pop.ensures.capacity) (
          Queues-bury c.loop-first.self-inside.held.entries _ _ _ c.in-Some.first c.loop-first.invariant.queues
          c.in-Some.ensures.permutation (c.in-Some.ensures.heap_order c.loop-first.invariant.queues.order).0 shorter);
      same = ap counted c.bury.ensures.entries ∙ counted-alive c.loop-first.self-inside.held.entries c.in-Some.first.0 (sym c.bury.ensures.dead ∙ c.if-bury.false) ∙ c.loop-first.invariant.same;
    }

pub returns-clause-none : goal.returns-clause-none
returns-clause-none c =
    let empty : length (heap_items c.loop-first.self-inside.queue) ≡ 0 = omega (arith, c.in_default.ensures.none, c.loop-first.self-inside.queue.data.ok.0) in
    λ h. subst (λ m. (counts_at m h ≡ Some (0, 0)) → ⊥) c.loop-first.invariant.same (no-zeros c.loop-first.self-inside.held.entries _ _ h c.loop-first.invariant.queues empty)
