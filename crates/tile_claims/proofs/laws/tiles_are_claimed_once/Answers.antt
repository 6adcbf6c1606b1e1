use Rattle.tile_claims.proofs.ClaimsKept.{once_at_most}
use Rattle.tile_claims.proofs.laws.tiles_are_claimed_once.Goals as goal

pub returns : goal.returns
returns c = once_at_most
