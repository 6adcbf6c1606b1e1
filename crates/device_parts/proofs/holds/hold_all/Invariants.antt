use Rattle.std.proofs.Common.{◌≡◌, take}
use Rattle.device_parts.specs.Holds.{held_too, with_holds}
use Rattle.device_parts.proofs.holds.hold_all.Given as goal

abbrev pub invariant-loop-h : goal.invariant-loop-h
invariant-loop-h l = l.objects ≡ with_holds l.fn.objects (held_too (take l.h-index l.reach) l.fn.objects.stored.holds)
