use Rattle.std.proofs.Common.{◌≡◌, take}
use Rattle.world_snapshot.proofs.prepared.copied_lights.Given as goal

abbrev pub invariant-loop-i : goal.invariant-loop-i
invariant-loop-i l = l.copy.items ≡ take l.i l.lights
