use Rattle.std.proofs.Common.{take}
use Rattle.seq_model.specs.Life.{has}
use Rattle.plain_objects.specs.Sweeping.{Adds}
use Rattle.plain_objects.proofs.marks.mark_all.Given as goal

-- the first handles are marked
abbrev pub invariant-loop-h : goal.invariant-loop-h
invariant-loop-h l = Adds (λ k. has k (take l.h-index l.handles)) l.initial.marks l.marks
