use Rattle.std.specs.Prelude.{[]}
use Rattle.object_store.specs.Moves.{Moves}
use Rattle.object_store.specs.Parts.{named_below}
use Rattle.object_store.proofs.account.name_elements.Given as goal

abbrev pub invariant-loop-i : goal.invariant-loop-i
invariant-loop-i l = Moves l.initial.counts l.counts (named_below l.elements l.i) []
