use Rattle.std.proofs.Common.{◌≤◌, ◌-◌, length}
use Rattle.world_snapshot.specs.Rising.{AreLower, AreNotLower}
use Rattle.world_snapshot.proofs.searches.rank.Given as goal

abbrev pub invariant-loop-low : goal.invariant-loop-low
invariant-loop-low l = (l.low ≤ l.high) × (l.high ≤ length l.rows) × AreLower l.rows l.low l.place × AreNotLower l.rows l.high l.place

abbrev pub decreases-loop-low : goal.decreases-loop-low
decreases-loop-low l = l.high - l.low
