use Rattle.std.proofs.Common.{◌≡◌, ◌++◌}
use Rattle.scene_read.specs.Starts.{element_starts}
use Rattle.scene_read.proofs.walks.push_elements.Given as goal

abbrev pub invariant-loop-i : goal.invariant-loop-i
invariant-loop-i l = l.starts.items ≡ l.initial.starts.items ++ element_starts l.kind l.spot l.elements l.i
