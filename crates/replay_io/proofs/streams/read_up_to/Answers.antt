use Rattle.std.proofs.Common.{rules, arith, length, ◌+◌, ◌≤◌}
use Rattle.std.proofs.lemmas.List.{length-take}
use Rattle.replay_io.proofs.Runs.{ConsumesUpTo-more}
use Rattle.replay_io.proofs.streams.read_up_to.Goals as goal

pub returns-in_err-read_piece-clause-lost : goal.returns-in_err-read_piece-clause-lost
returns-in_err-read_piece-clause-lost g c =
    let bytes = c.loop-piece.bytes in
    let piece = c.read_piece.new.piece in
    let room = length-take c.min-room.result c.deref_mut.result.now in
    let fits : length bytes.items + length piece ≤ c.args.most =
    omega (arith, bytes.ok.0, room, c.read_piece.auto.piece, c.min-room.ensures, c.len-in-loop-piece-2.ensures, c.len.ensures, c.loop-piece-test.true) in
    let lost = ConsumesUpTo-more _ _ _ bytes.items (length piece) c.args.most c.loop-piece.invariant.1.consumed fits c.in_err-read_piece.ensures.lost in
    search (rules, lost)
