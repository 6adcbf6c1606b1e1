use Rattle.std.proofs.Common.{◌≡◌, take}
use Rattle.scene_tests.proofs.renders.primitives.Given as goal

abbrev pub invariant-loop-i : goal.invariant-loop-i
invariant-loop-i l = l.primitives.items ≡ take l.i l.prepared.primitives
