use Rattle.std.proofs.Common.{arith}
use Rattle.tile_claims.proofs.ClaimsKept.{splits}
use Rattle.tile_claims.proofs.frame.Frame.spread.Goals as goal

pub split_seat-requires : goal.split_seat-requires
split_seat-requires c =
    let shared = c.args.self.now.table.shared in
    (c.requires.table, omega (arith, c.args.self.now.two_words), splits shared.key c.args.seat.now.id c.args.seat.now.me.0 c.requires.first c.requires.few)
