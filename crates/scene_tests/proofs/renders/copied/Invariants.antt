use Rattle.std.proofs.Common.{◌≡◌, take}
use Rattle.scene_tests.proofs.renders.copied.Given as goal

abbrev pub invariant-loop-i : goal.invariant-loop-i
invariant-loop-i l = l.copied.items ≡ take l.i l.lights
