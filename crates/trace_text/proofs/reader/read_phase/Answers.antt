use Rattle.std.proofs.Common.{sym, ap, ◌∙◌}
use Rattle.std.specs.List.{flat_map}
use Rattle.serde_json.specs.View.{view}
use Rattle.trace_text.specs.Places.{caller_places, numbered}
use Rattle.trace_text.specs.Reading.{checked}
use Rattle.trace_text.proofs.ReadingFacts.{handed_on, tells_more}
use Rattle.trace_text.proofs.WholeFacts.{checked-no_phase, checked-phase, told}
use Rattle.trace_text.proofs.reader.read_phase.Goals as goal

pub returns-then-not-is_phase-clause-places : goal.returns-then-not-is_phase-clause-places
returns-then-not-is_phase-clause-places c =
    told _ c.broken.result _ c.broken.ensures
    (checked-no_phase c.args.version c.args.before.now c.args.number (view c.args.value.now) _ (sym c.is_phase.ensures ∙ c.if-not-is_phase.true))

pub returns-in_err-callers-clause-places : goal.returns-in_err-callers-clause-places
returns-in_err-callers-clause-places c =
    rw (handed_on c.from_residual.result c.in_err-callers.field-0.0 c.from_residual.ensures)
    (tells_more _ _ c.in_err-callers.field-0.0
    (λ fault is. checked-phase c.args.version c.args.before.now c.args.number (view c.args.value.now) _ (sym c.is_phase.ensures ∙ c.if-not-is_phase.false)
    ∙ ap (λ ds. checked c.args.version c.args.before.now (flat_map (caller_places c.args.version c.args.number) (numbered 0 ds))) (sym c.items_at.ensures) ∙ is)
    c.in_err-callers.ensures.places)

pub returns-clause-places : goal.returns-clause-places
returns-clause-places c =
    checked-phase c.args.version c.args.before.now c.args.number (view c.args.value.now) _ (sym c.is_phase.ensures ∙ c.if-not-is_phase.false)
    ∙ ap (λ ds. checked c.args.version c.args.before.now (flat_map (caller_places c.args.version c.args.number) (numbered 0 ds))) (sym c.items_at.ensures)
    ∙ c.in_ok-callers.ensures.places
