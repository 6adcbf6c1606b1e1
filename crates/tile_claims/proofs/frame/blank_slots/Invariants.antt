use Rattle.std.proofs.Common.{◌≡◌, length}
use Rattle.tile_claims.specs.Parts.{AreSlots}
use Rattle.tile_claims.proofs.frame.blank_slots.Given as goal

abbrev pub invariant-loop-tile : goal.invariant-loop-tile
invariant-loop-tile l = (length l.slots.items ≡ l.tile) × AreSlots l.key l.tile l.slots.items
