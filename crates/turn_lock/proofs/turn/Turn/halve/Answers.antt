use Rattle.std.proofs.Common.{arith}
use Rattle.turn_lock.proofs.TurnKept.{splits}
use Rattle.turn_lock.proofs.turn.Turn.halve.Goals as goal

pub split_seat-requires : goal.split_seat-requires
split_seat-requires g c =
    let J = g.S.Journaled in
    (c.requires.table, omega (arith, c.args.self.now.one_word), splits J.history J.fixed J.by (J.fixed c.args.self.now.table.shared.key.value) c.args.seat.now.id c.args.seat.now.me.0 c.requires.idle c.requires.unspent)
