use Rattle.std.specs.Prelude.{[]}
use Rattle.std.specs.Prelude.{replicate}
use Rattle.object_store.specs.Moves.{Moves}
use Rattle.object_store.proofs.account.unname_times.Given as goal

abbrev pub invariant-loop-i : goal.invariant-loop-i
invariant-loop-i l = Moves l.initial.counts l.counts [] (replicate l._i l.h)
