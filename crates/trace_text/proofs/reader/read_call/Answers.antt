use Rattle.std.proofs.Common.{sym, ◌∙◌}
use Rattle.serde_json.specs.View.{view}
use Rattle.trace_text.proofs.CallFacts.{breaks_form, breaks_label, is_added, not_added, reads_call, tells_broken}
use Rattle.trace_text.specs.declared.fault.Rule.TheVariants.{NotOfItsForm, BoundBefore}
use Rattle.trace_text.proofs.reader.read_call.Goals as goal

pub returns-in-Err-clause-places : goal.returns-in-Err-clause-places
returns-in-Err-clause-places c =
    tells_broken c.args.spot.version c.args.before.now c.args.spot.phase c.args.spot.caller c.args.loans_left c.of_caller-number.result
    (view c.args.value.now) c.in-Err.rule c.broken.result (c.in-Err.ensures c.args.before.now (sym c.calls.ensures)) c.of_caller-number.ensures c.broken.ensures

pub returns-in-None-clause-places : goal.returns-in-None-clause-places
returns-in-None-clause-places c =
    tells_broken c.args.spot.version c.args.before.now c.args.spot.phase c.args.spot.caller c.args.loans_left c.of_caller-number.result
    (view c.args.value.now) NotOfItsForm c.broken-in-None.result
    (breaks_form c.args.spot.version c.args.before.now c.args.loans_left c.calls.result (view c.args.value.now) c.in-Ok.op (sym c.calls.ensures)
    c.in-Ok.ensures.few c.in-Ok.ensures.op_is c.in-Ok.ensures.is_open (sym c.in-None.is ∙ c.in_ok-call.ensures))
    c.of_caller-number.ensures c.broken-in-None.ensures

pub returns-then-not-branch-clause-places : goal.returns-then-not-branch-clause-places
returns-then-not-branch-clause-places c =
    tells_broken c.args.spot.version c.args.before.now c.args.spot.phase c.args.spot.caller c.args.loans_left c.of_caller-number.result
    (view c.args.value.now) BoundBefore c.broken-then-not-branch.result
    (breaks_label c.args.spot.version c.args.before.now c.args.loans_left c.calls.result (view c.args.value.now) c.in-Ok.op c.in-Some.call (sym c.calls.ensures)
    c.in-Ok.ensures.few c.in-Ok.ensures.op_is c.in-Ok.ensures.is_open (sym c.in-Some.is ∙ c.in_ok-call.ensures)
    (not_added _ _ c.in_ok-bind.ensures.added c.if-not-branch.true))
    c.of_caller-number.ensures c.broken-then-not-branch.ensures

pub returns-clause-places : goal.returns-clause-places
returns-clause-places c =
    reads_call c.args.spot.version c.args.before.now c.bind.new.before c.add_call.new.self c.args.spot.phase c.args.spot.caller c.args.loans_left c.calls.result
    (view c.args.value.now) c.in-Ok.op c.in-Some.call (sym c.calls.ensures) c.in-Ok.ensures.few c.in-Ok.ensures.op_is c.in-Ok.ensures.is_open
    (sym c.in-Some.is ∙ c.in_ok-call.ensures) (is_added _ _ c.in_ok-bind.ensures.added c.if-not-branch.false) c.in_ok-bind.ensures.bound c.add_call.ensures
