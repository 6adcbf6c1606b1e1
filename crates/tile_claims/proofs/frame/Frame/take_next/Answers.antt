use Rattle.std.proofs.Common.{arith, ◌∙◌, ap, sym, Some, ◌∷◌}
use Rattle.atomic_table.specs.Table.{rest}
use Rattle.tile_claims.specs.Parts.{tiles_of}
use Rattle.tile_claims.proofs.ClaimsKept.{takes_next}
use Rattle.tile_claims.proofs.frame.Frame.take_next.Goals as goal

pub fetch_add-number-requires : goal.fetch_add-number-requires
fetch_add-number-requires c =
    let frame = c.args.self.now in
    let shared = frame.table.shared in (
      c.requires.table,
      omega (arith, frame.two_words),
      takes_next shared.key shared.table_id.slots c.args.seat.now.id c.args.seat.now.me (omega (arith, frame.few, frame.counted)) c.requires.idle c.requires.in_time,
    )

pub exchange-pixels-requires : goal.exchange-pixels-requires
exchange-pixels-requires c =
    let number = c.fetch_add-number.ensures in
    let keys = ap tiles_of c.requires.keyed in
    let took = number.2.taken (omega (arith, keys, c.args.self.now.counted)) in
    let hand = ap (λ me. me.1) took.1 in
    (number.0 ∙ c.requires.table, (Some took.0, hand ∙ ap (λ cs. (c.fetch_add-number.result, Some took.0) ∷ rest cs) (sym hand)))
