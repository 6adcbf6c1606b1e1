use Rattle.std.proofs.Common.{◌≡◌}
use Rattle.std.specs.List.{list_any}
use Rattle.seq_model.specs.State.{is_in_flight}
use Rattle.plain_objects.proofs.Turns.{from}
use Rattle.plain_journal.proofs.endings.is_flying.Given as goal

-- no frame below h is in flight with the ticket
abbrev pub invariant-loop-h : goal.invariant-loop-h
invariant-loop-h l = list_any (λ entry. is_in_flight l.ticket entry.1) (from l.h l.stage.objects) ≡ list_any (λ entry. is_in_flight l.ticket entry.1) l.stage.objects
