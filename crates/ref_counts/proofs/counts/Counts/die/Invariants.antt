use Rattle.std.proofs.Common.{◌≡◌}
use Rattle.std.specs.BinaryHeap.{heap_items, heap_len, heap_capacity}
use Rattle.ref_counts.specs.Queues.{counted, Queues}
use Rattle.ref_counts.proofs.counts.Counts.die.Given as goal

abbrev pub invariant-loop-first : goal.invariant-loop-first
invariant-loop-first l = record {
  queues : Queues l.self-inside.held.entries (heap_items l.self-inside.queue) (heap_capacity l.self-inside.queue);
  same : counted l.self-inside.held.entries ≡ l.fn.self;
}

abbrev pub decreases-loop-first : goal.decreases-loop-first
decreases-loop-first l = heap_len l.self-inside.queue
