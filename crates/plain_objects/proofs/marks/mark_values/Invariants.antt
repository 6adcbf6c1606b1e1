use Rattle.std.proofs.Common.{Bool, List}
use Rattle.kind_tables.specs.SceneObjects.{objects_of}
use Rattle.seq_model.specs.Life.{has}
use Rattle.plain_objects.specs.Sweeping.{Adds}
use Rattle.plain_objects.proofs.marks.mark_values.Given as goal

-- with what the other values name, all is marked
abbrev pub invariant-loop-value : goal.invariant-loop-value
invariant-loop-value l =
    (last : List Bool) → Adds (λ k. has k (objects_of l.value-iterator)) l.marks last → Adds (λ k. has k (objects_of l.values.entries)) l.initial.marks last
