use Rattle.std.proofs.Common.{◌≡◌, ◌≤◌, ℕ, true}
use Rattle.tile_claims.specs.Rule.{HasSeenAll}
use Rattle.tile_claims.specs.Seats.{view, IsSeatOf}
use Rattle.dev_types.specs.Counting.{times}
use Rattle.flight_tests.proofs.tiles.collect_all.Given as goal

abbrev pub invariant-loop-tile : goal.invariant-loop-tile
invariant-loop-tile g l =
    IsSeatOf l.claims l.seat × ((view l.seat).first ≡ true) × HasSeenAll (view l.seat) × ((t : ℕ) → l.tile ≤ t → times t (view l.seat).collected ≡ 0)
