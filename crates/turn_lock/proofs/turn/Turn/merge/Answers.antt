use Rattle.std.proofs.Common.{arith, ◌∙◌}
use Rattle.turn_lock.proofs.TurnKept.{joins, looks}
use Rattle.turn_lock.proofs.turn.Turn.merge.Goals as goal

pub join_seat-requires : goal.join_seat-requires
join_seat-requires g c =
    let J = g.S.Journaled in (
      c.requires.table,
      c.requires.same_table ∙ c.requires.table,
      c.requires.empty,
      omega (arith, c.args.self.now.one_word),
      joins J.history J.fixed J.by (J.fixed c.args.self.now.table.shared.key.value) c.args.seat.now.id c.args.seat.now.me.0 c.args.other.id c.args.other.me.0 c.requires.idle.0 c.requires.idle.1 c.requires.unspent,
    )

pub load-requires : goal.load-requires
load-requires g c =
    let J = g.S.Journaled in
    let shared = c.args.self.now.table.shared in
    (c.join_seat.ensures.0 ∙ c.requires.table, omega (arith, c.args.self.now.one_word), looks J.history J.fixed J.by (J.fixed shared.key.value) shared.table_id.slots c.join_seat.new.seat.id c.join_seat.new.seat.me)
