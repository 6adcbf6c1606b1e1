use Rattle.std.proofs.Common.{Bool, List}
use Rattle.std.specs.List.{filter_map, list_any}
use Rattle.seq_model.specs.State.{ticket_in}
use Rattle.seq_model.specs.Steps.{is_reached_by}
use Rattle.plain_objects.proofs.Turns.{from}
use Rattle.plain_objects.specs.Sweeping.{Adds}
use Rattle.plain_objects.proofs.marks.mark_flying.Given as goal

-- with what the flights of the frames from h on reached, all is marked
abbrev pub invariant-loop-h : goal.invariant-loop-h
invariant-loop-h l = (last : List Bool) →
    Adds (λ k. list_any (λ t. is_reached_by l.reached t k) (filter_map (λ entry. ticket_in entry.1.phase) (from l.h l.stage.objects))) l.marks last →
    Adds (λ k. list_any (λ t. is_reached_by l.reached t k) (filter_map (λ entry. ticket_in entry.1.phase) l.stage.objects)) l.initial.marks last
