use Rattle.std.proofs.Common.{sym, ap, ◌∙◌}
use Rattle.trace_text.specs.Places.{marks, placed}
use Rattle.trace_text.specs.Reading.{checked}
use Rattle.trace_text.proofs.ReadingFacts.{handed_on, tells_more}
use Rattle.trace_text.proofs.WholeFacts.{checked-caller}
use Rattle.trace_text.proofs.reader.read_caller.Goals as goal

pub returns-in_err-read_calls-clause-places : goal.returns-in_err-read_calls-clause-places
returns-in_err-read_calls-clause-places c =
    rw (handed_on c.from_residual.result c.in_err-read_calls.field-0.0 c.from_residual.ensures)
    (tells_more _ _ c.in_err-read_calls.field-0.0
    (λ fault is. checked-caller c.args.spot.version c.args.before.now c.begin_caller.new.self c.args.spot.phase c.args.spot.caller _ c.begin_caller.ensures
    ∙ ap (λ ds. checked c.args.spot.version c.begin_caller.new.self (placed c.args.spot.phase c.args.spot.caller (marks c.args.spot.version 8 ds))) (sym c.items.ensures) ∙ is)
    c.in_err-read_calls.ensures.places)

pub returns-clause-places : goal.returns-clause-places
returns-clause-places c =
    checked-caller c.args.spot.version c.args.before.now c.begin_caller.new.self c.args.spot.phase c.args.spot.caller _ c.begin_caller.ensures
    ∙ ap (λ ds. checked c.args.spot.version c.begin_caller.new.self (placed c.args.spot.phase c.args.spot.caller (marks c.args.spot.version 8 ds))) (sym c.items.ensures)
    ∙ c.in_ok-read_calls.ensures.places
