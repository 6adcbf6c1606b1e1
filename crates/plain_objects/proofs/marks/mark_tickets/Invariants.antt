use Rattle.std.proofs.Common.{take}
use Rattle.std.specs.List.{list_any}
use Rattle.seq_model.specs.Steps.{is_reached_by}
use Rattle.plain_objects.specs.Sweeping.{Adds}
use Rattle.plain_objects.proofs.marks.mark_tickets.Given as goal

-- what the first flights reached is marked
abbrev pub invariant-loop-ticket : goal.invariant-loop-ticket
invariant-loop-ticket l = Adds (λ k. list_any (λ t. is_reached_by l.reached t k) (take l.ticket-index l.tickets)) l.initial.marks l.marks
