use Rattle.std.proofs.Common.{◌-◌, ◌<◌, vec_len}
use Rattle.replay_io.proofs.Runs.{Taken}
use Rattle.replay_io.proofs.streams.read_up_to.Given as goal

abbrev pub invariant-loop-piece : goal.invariant-loop-piece
invariant-loop-piece g l = (0 < vec_len l.piece) × Taken (g.S.Source.left l.initial.source) (g.S.Source.left l.source) l.bytes.items l.most (g.S.Source.faults l.initial.source) (g.S.Source.faults l.source)

abbrev pub decreases-loop-piece : goal.decreases-loop-piece
decreases-loop-piece g l = l.most - vec_len l.bytes
