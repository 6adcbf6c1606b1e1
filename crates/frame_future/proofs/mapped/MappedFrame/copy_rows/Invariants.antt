use Rattle.std.proofs.Common.{◌≡◌, ◌*◌, length, take}
use Rattle.frame_future.proofs.mapped.MappedFrame.copy_rows.Given as goal

abbrev pub invariant-loop-y : goal.invariant-loop-y
invariant-loop-y l = (length l.out ≡ length l.fn.out) × (take (4 * (l.y * l.self.width)) l.out ≡ take (4 * (l.y * l.self.width)) l.self.bytes)
