use Rattle.tile_claims.proofs.ClaimsKept.{starts}
use Rattle.tile_claims.proofs.seats.Claims.new.Goals as goal

pub new-requires : goal.new-requires
new-requires c = starts c.args.key c.in_ok-slots.slots.items c.in_ok-slots.ensures.sized
