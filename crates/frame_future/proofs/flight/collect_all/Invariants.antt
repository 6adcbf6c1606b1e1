use Rattle.std.proofs.Common.{◌≡◌, ◌≤◌, ℕ, true, length, vec_capacity}
use Rattle.tile_claims.specs.Rule.{HasSeenAll}
use Rattle.tile_claims.specs.Seats.{key_of, view, IsSeatOf}
use Rattle.dev_types.specs.Counting.{times}
use Rattle.frame_future.specs.Pixels.{AreTiles}
use Rattle.frame_future.proofs.flight.collect_all.Given as goal

abbrev pub invariant-loop-tile : goal.invariant-loop-tile
invariant-loop-tile l =
    IsSeatOf l.claims l.seat × ((view l.seat).first ≡ true) × HasSeenAll (view l.seat) × ((t : ℕ) → l.tile ≤ t → times t (view l.seat).collected ≡ 0)
    × (length l.pixels.items ≡ l.tile) × AreTiles (key_of l.claims) l.pixels.items × (l.tiles ≤ vec_capacity l.pixels)
