use Rattle.tile_claims.specs.Parts.{AreRows}
use Rattle.tile_claims.specs.Seats.{key_of, tile_of, pixels_of, IsClaimOf, IsSameClaim}
use Rattle.flight_tests.proofs.tiles.fill.Given as goal

abbrev pub invariant-loop-channel : goal.invariant-loop-channel
invariant-loop-channel l = IsClaimOf l.claims l.claim × IsSameClaim l.initial.claim l.claim × AreRows (key_of l.claims) (tile_of l.claim) (pixels_of l.claim) l.channel 0
