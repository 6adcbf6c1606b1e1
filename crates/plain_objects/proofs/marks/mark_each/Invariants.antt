use Rattle.std.specs.List.{filter_map, range_with_len}
use Rattle.byte_view.specs.Elements.{element}
use Rattle.kind_tables.specs.SceneObjects.{object_in}
use Rattle.seq_model.specs.Life.{has}
use Rattle.plain_objects.specs.Sweeping.{Adds}
use Rattle.plain_objects.proofs.marks.mark_each.Given as goal

-- what the first i elements name is marked
abbrev pub invariant-loop-i : goal.invariant-loop-i
invariant-loop-i l = Adds (λ k. has k (filter_map (λ i. object_in (element l.elements i)) (range_with_len 0 l.i))) l.initial.marks l.marks
