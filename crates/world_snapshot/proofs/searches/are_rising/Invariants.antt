use Rattle.std.proofs.Common.{◌≤◌}
use Rattle.world_snapshot.specs.Rising.{AreRising}
use Rattle.world_snapshot.proofs.searches.are_rising.Given as goal

abbrev pub invariant-loop-i : goal.invariant-loop-i
invariant-loop-i l = (1 ≤ l.i) × AreRising l.rows l.i
