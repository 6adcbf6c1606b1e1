use Rattle.std.proofs.Common.{Bool, List}
use Rattle.seq_model.specs.Life.{is_named_by}
use Rattle.plain_objects.proofs.Turns.{from}
use Rattle.plain_objects.specs.Sweeping.{Adds, marked}
use Rattle.plain_objects.proofs.marks.mark_named.Given as goal

-- with what the objects from h on name, all is marked
abbrev pub invariant-loop-h : goal.invariant-loop-h
invariant-loop-h l = (last : List Bool) → Adds (is_named_by (marked l.others (from l.h l.stage.objects))) l.marks last → Adds (is_named_by (marked l.others l.stage.objects)) l.initial.marks last
