use Rattle.tile_claims.proofs.ClaimsKept.{seen_shown}
use Rattle.tile_claims.proofs.laws.full_counts_show_all.Goals as goal

pub returns : goal.returns
returns c = seen_shown
