use Rattle.std.proofs.Common.{arith}
use Rattle.tile_claims.proofs.ClaimsKept.{looks_at_gives}
use Rattle.tile_claims.proofs.frame.Frame.look_at_gives.Goals as goal

pub load-requires : goal.load-requires
load-requires c =
    let shared = c.args.self.now.table.shared in
    (c.requires.table, omega (arith, c.args.self.now.two_words), looks_at_gives shared.key shared.table_id.slots c.args.seat.now.id c.args.seat.now.me)
