use Rattle.std.proofs.Common.{arith, ◌∙◌}
use Rattle.turn_lock.proofs.TurnKept.{lets_go_written}
use Rattle.turn_lock.proofs.turn.Turn.put.Goals as goal

pub store-requires : goal.store-requires
store-requires g c =
    let J = g.S.Journaled in
    let shared = c.args.self.now.table.shared in
    let seat = c.exchange-before.new.seat in
    let did = c.exchange-before.ensures in (
      did.0 ∙ c.requires.table,
      omega (arith, c.args.self.now.one_word),
      lets_go_written J.history J.fixed J.by (J.fixed shared.key.value) shared.table_id.slots seat.id seat.me c.args.seat.now.me.0 c.args.seat.now.me.1 c.args.state did.3 c.requires.out c.args.self.now.one_slot
          c.requires.holding c.requires.unspent c.requires.fixed c.requires.extends,
    )
