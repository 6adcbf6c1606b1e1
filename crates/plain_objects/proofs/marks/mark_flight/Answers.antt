use Rattle.std.proofs.Common.{◌≡◌, ◌∙◌, ◌==◌, ℕ, List, None, Some, ap, sym}
use Rattle.std.specs.List.{find}
use Rattle.seq_model.specs.Life.{has}
use Rattle.plain_objects.proofs.Adding.{adds_none, adds_same}
use Rattle.plain_objects.proofs.Turns.{reached_by_found}
use Rattle.plain_objects.proofs.marks.mark_flight.Goals as goal

pub returns-in-Some : goal.returns-in-Some
returns-in-Some c =
    let found : Some c.in-Some.reach.now ≡ find (λ r. r.0 == c.args.ticket) c.args.reached.now = c.in-Some.ensures in
    let items : c.deref.result.now ≡ c.in-Some.reach.now.1 = c.deref.ensures.value ∙ ap (λ (r : ℕ × List ℕ). r.1) c.reach.view_is in
    adds_same (λ k. has k c.deref.result.now) _ c.args.marks.now c.mark_all.new.marks
    (λ k. reached_by_found c.args.ticket k c.args.reached.now (Some c.in-Some.reach.now) found ∙ sym (ap (has k) items)) c.mark_all.ensures

pub returns-in_default : goal.returns-in_default
returns-in_default c =
    let found : None ≡ find (λ r. r.0 == c.args.ticket) c.args.reached.now = c.in_default.ensures in
    adds_none _ c.args.marks.now (λ k. reached_by_found c.args.ticket k c.args.reached.now None found)
