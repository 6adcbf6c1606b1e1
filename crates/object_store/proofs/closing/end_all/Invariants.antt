use Rattle.std.proofs.Common.{◌≡◌, ◌<◌, ◌≤◌, ◌-◌, ℕ}
use Rattle.array_objects.specs.Stores.{array_at}
use Rattle.object_store.specs.Ends.{ended}
use Rattle.object_store.specs.Parts.{joined}
use Rattle.object_store.proofs.Closings.{from_on}
use Rattle.object_store.proofs.closing.end_all.Given as goal

abbrev pub invariant-loop-h : goal.invariant-loop-h
invariant-loop-h l =
    (l.dead ≡ record l.initial.dead { list = ended (from_on l.h (joined l.initial.arrays l.initial.slots.entries)) }) × ((k : ℕ) → k < l.h → array_at l.arrays k ≡ array_at l.initial.arrays k) × (1 ≤ l.h)

abbrev pub decreases-loop-h : goal.decreases-loop-h
decreases-loop-h l = l.h - 1
