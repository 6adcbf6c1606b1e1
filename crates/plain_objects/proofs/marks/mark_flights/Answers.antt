use Rattle.std.proofs.Common.{subst}
use Rattle.std.specs.List.{filter_map, list_any}
use Rattle.std.proofs.lemmas.List.Folds.{list_any-append}
use Rattle.seq_model.specs.State.{ticket_in}
use Rattle.seq_model.specs.Steps.{is_reached, is_reached_by}
use Rattle.plain_objects.proofs.Adding.{adds_both}
use Rattle.plain_objects.specs.Sweeping.{Adds}
use Rattle.plain_objects.proofs.marks.mark_flights.Goals as goal

pub returns : goal.returns
unfolding is_reached
returns c =
    let stopped : Adds (λ k. list_any (λ t. is_reached_by c.args.reached.now t k) c.args.stage.now.stopped) c.mark_flying.new.marks c.mark_tickets.new.marks =
    subst (λ ts. Adds (λ k. list_any (λ t. is_reached_by c.args.reached.now t k) ts) c.mark_flying.new.marks c.mark_tickets.new.marks) c.stopped.ensures c.mark_tickets.ensures in
    adds_both (λ k. list_any (λ t. is_reached_by c.args.reached.now t k) (filter_map (λ entry. ticket_in entry.1.phase) c.args.stage.now.objects))
    (λ k. list_any (λ t. is_reached_by c.args.reached.now t k) c.args.stage.now.stopped) (is_reached c.args.reached.now c.args.stage.now) c.args.marks.now c.mark_flying.new.marks c.mark_tickets.new.marks c.mark_flying.auto.marks
    (λ k. list_any-append (λ t. is_reached_by c.args.reached.now t k) (filter_map (λ entry. ticket_in entry.1.phase) c.args.stage.now.objects) c.args.stage.now.stopped)
    c.mark_flying.ensures stopped
