use Rattle.tile_claims.specs.Seats.{IsClaimOf, IsSameClaim, key_of, pixels_of, tile_of}
use Rattle.tile_render.specs.Filled.{AreFilled}
use Rattle.tile_render.proofs.tiles.render.Given as goal

abbrev pub invariant-loop-y : goal.invariant-loop-y
invariant-loop-y l = IsClaimOf l.work.claims l.claim × IsSameClaim l.initial.claim l.claim × AreFilled (key_of l.work.claims) (tile_of l.claim) (pixels_of l.claim) l.y 0
