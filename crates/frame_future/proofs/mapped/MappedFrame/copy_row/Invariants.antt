use Rattle.std.proofs.Common.{◌≡◌, ◌+◌, ◌*◌, min, length, take}
use Rattle.frame_future.proofs.mapped.MappedFrame.copy_row.Given as goal

abbrev pub invariant-loop-tile : goal.invariant-loop-tile
invariant-loop-tile l =
    (length l.out ≡ length l.fn.out)
    × (take (4 * (l.y * l.self.width + min l.self.width (16 * l.tile))) l.out ≡ take (4 * (l.y * l.self.width + min l.self.width (16 * l.tile))) l.self.bytes)
