use Rattle.std.proofs.Common.{arith, ◌∙◌}
use Rattle.atomic_table.specs.Table.{rest}
use Rattle.tile_claims.proofs.ClaimsKept.{counts}
use Rattle.tile_claims.proofs.frame.Frame.put_back.Goals as goal

pub fetch_add-requires : goal.fetch_add-requires
fetch_add-requires c =
    let frame = c.args.self.now in
    let shared = frame.table.shared in
    let seat = c.exchange-before.new.seat in
    let did = c.exchange-before.ensures in
    let v = c.args.seat.now.me.0 in (
      did.0 ∙ c.requires.table,
      omega (arith, frame.two_words),
      counts shared.key shared.table_id.slots seat.id seat.me v c.args.tile c.args.pixels (rest c.args.seat.now.me.1) did.3
          (omega (arith, frame.few, frame.counted)) (frame.slots ∙ frame.counted) c.requires.opened c.requires.filled,
    )
