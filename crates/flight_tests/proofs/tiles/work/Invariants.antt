use Rattle.std.proofs.Common.{◌≡◌, ◌≤◌, None, false}
use Rattle.tile_claims.specs.Seats.{view, IsSeatOf}
use Rattle.flight_tests.proofs.tiles.work.Given as goal

abbrev pub invariant-loop : goal.invariant-loop
invariant-loop l =
    IsSeatOf l.claims l.seat × ((view l.seat).opened ≡ None) × ((view l.seat).late ≡ false)
    × ((view l.seat).first ≡ (view l.initial.seat).first) × ((view l.seat).collected ≡ (view l.initial.seat).collected) × (l.given ≤ l.counter)
