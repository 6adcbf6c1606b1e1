use Rattle.std.proofs.Common.{length}
use Rattle.replay_core.specs.Found.{ByLabel, Joins}
use Rattle.replay_core.proofs.bindings.add_lists.Given as goal

-- where what is left is put behind what stands there, all is
abbrev pub invariant-loop-label : goal.invariant-loop-label
invariant-loop-label l = (target : ByLabel) → Joins l.by_label.entries l.left.entries target → Joins l.fn.by_label.entries l.fn.more.entries target

abbrev pub decreases-loop-label : goal.decreases-loop-label
decreases-loop-label l = length l.left.entries
