use Rattle.std.proofs.Common.{arith}
use Rattle.tile_claims.proofs.ClaimsKept.{stops}
use Rattle.tile_claims.proofs.frame.Frame.pass_all.Goals as goal

pub fetch_max-requires : goal.fetch_max-requires
fetch_max-requires c =
    let frame = c.args.self.now in
    let shared = frame.table.shared in (
      c.requires.table,
      omega (arith, frame.two_words),
      stops shared.key shared.table_id.slots c.args.seat.now.id frame.tiles c.args.seat.now.me frame.counted c.requires.first c.requires.going,
    )
