use Rattle.std.proofs.Common.{arith, ◌∷◌, Some, sym, ap, ◌∙◌}
use Rattle.atomic_table.specs.Table.{rest}
use Rattle.turn_lock.proofs.TurnKept.{grabs}
use Rattle.turn_lock.proofs.turn.Turn.try_take.Goals as goal

pub compare_exchange-free-requires : goal.compare_exchange-free-requires
compare_exchange-free-requires g c =
    let J = g.S.Journaled in
    let shared = c.args.self.now.table.shared in
    (c.requires.table, omega (arith, c.args.self.now.one_word), grabs J.history J.fixed J.by (J.fixed shared.key.value) shared.table_id.slots c.args.seat.now.id c.args.seat.now.me c.requires.unspent)

pub exchange-requires : goal.exchange-requires
exchange-requires g c =
    let got = c.compare_exchange-free.ensures.2.0 c.if-free.true in
    let hand = ap (λ me. me.1) got.1 in
    (c.compare_exchange-free.ensures.0 ∙ c.requires.table, (Some got.0, hand ∙ ap (λ cs. (0, Some got.0) ∷ rest cs) (sym hand)))
