use Rattle.std.proofs.Common.{⊎_elim}
use Rattle.tile_claims.specs.Rule.{HasSeenAll, HasSeenStopped}
use Rattle.tile_claims.proofs.ClaimsKept.{seen_all, seen_stopped}
use Rattle.tile_claims.proofs.laws.no_tile_is_open.Goals as goal

pub returns : goal.returns
returns c key s kept v at seen = ⊎_elim
    (λ (all : HasSeenAll v). seen_all key s kept v at all)
    (λ (stopped : HasSeenStopped v). seen_stopped key s kept v at stopped)
    seen
