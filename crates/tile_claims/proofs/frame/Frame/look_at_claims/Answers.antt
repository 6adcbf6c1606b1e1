use Rattle.std.proofs.Common.{arith}
use Rattle.tile_claims.proofs.ClaimsKept.{looks_at_claims}
use Rattle.tile_claims.proofs.frame.Frame.look_at_claims.Goals as goal

pub load-requires : goal.load-requires
load-requires c =
    let shared = c.args.self.now.table.shared in
    (c.requires.table, omega (arith, c.args.self.now.two_words), looks_at_claims shared.key shared.table_id.slots c.args.seat.now.id c.args.seat.now.me)
