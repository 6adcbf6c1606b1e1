use Rattle.std.proofs.Common.{[], ◌-◌, map, sym, ◌∙◌}
use Rattle.serde_json.specs.View.{view}
use Rattle.trace_text.specs.Places.{marks}
use Rattle.trace_text.proofs.ReadingFacts.{calls-end, calls-step, checked-nil, handed_on, inside-loan, inside_of-other, loan-grown, past_end, places-broken, places-broken_inside, places-end, places-step, tells_more}
use Rattle.trace_text.proofs.reader.+read_calls.Goals as goal
use Rattle.trace_text.proofs.reader.+read_calls.Goals.{then-is_loan+in_ok-read_calls+in_ok-push-2, else-is_loan}

pub returns-in_err-op-clause-places : goal.returns-in_err-op-clause-places
returns-in_err-op-clause-places t c =
    rw (handed_on c.from_residual.result c.in_err-op.field-0.0 c.from_residual.ensures)
    (tells_more _ _ c.in_err-op.field-0.0
    (λ fault is. places-broken c.args.spot.version c.args.loans_left c.args.spot.phase c.args.spot.caller c.args.values.now c.loop-value.value-index c.value-item.result
    c.loop-value.before _ fault c.loop-value-test.true c.value-item.is c.loop-value.invariant.places is)
    c.in_err-op.ensures.places)

pub returns-in_err-read_calls-clause-places : goal.returns-in_err-read_calls-clause-places
returns-in_err-read_calls-clause-places t c =
    let loan = sym c.is_loan.ensures ∙ c.if-is_loan.true in
    rw (handed_on c.from_residual-in_err-read_calls.result c.in_err-read_calls.field-0.0 c.from_residual-in_err-read_calls.ensures)
    (tells_more _ _ c.in_err-read_calls.field-0.0
    (λ fault is. places-broken_inside c.args.spot.version c.args.loans_left c.args.spot.phase c.args.spot.caller c.args.values.now c.loop-value.value-index c.value-item.result
    c.loop-value.before c.read_call.new.before _ _ fault c.loop-value-test.true c.value-item.is c.loop-value.invariant.places c.in_ok-op.ensures.places
    (inside-loan c.args.spot.version c.args.loans_left (view c.value-item.result) c.in_ok-op.op (map view c.items_at.result.now) c.in_ok-op.ensures.call.op_is loan
    (c.in_ok-op.ensures.call.may_open loan) c.items_at.ensures) is)
    c.in_err-read_calls.ensures.places)

pub loop-value-preserved : goal.loop-value-preserved
loop-value-preserved t c = elim c.if-is_loan.branch [
  | then-is_loan+in_ok-read_calls+in_ok-push-2 w ↦
      let loan = sym c.is_loan.ensures ∙ w.if-is_loan.true in
      let inner = marks c.args.spot.version (c.args.loans_left - 1) (map view w.items_at.result.now) in
      let inside = inside-loan c.args.spot.version c.args.loans_left (view c.value-item.result) c.in_ok-op.op (map view w.items_at.result.now) c.in_ok-op.ensures.call.op_is loan
      (c.in_ok-op.ensures.call.may_open loan) w.items_at.ensures in
      record {
        places = rw w.before-is (places-step c.args.spot.version c.args.loans_left c.args.spot.phase c.args.spot.caller c.args.values.now c.loop-value.value-index c.value-item.result
            c.loop-value.before c.read_call.new.before w.read_calls.new.before _ _ c.loop-value-test.true c.value-item.is c.in_ok-op.ensures.places inside
            (past_end c.args.spot.version c.read_call.new.before w.read_calls.new.before c.args.spot.phase c.args.spot.caller inner w.in_ok-read_calls.ensures.places)
            c.loop-value.invariant.places);
        calls = rw w.calls-is (calls-step c.args.spot.version c.args.loans_left c.args.values.now c.loop-value.value-index c.value-item.result c.loop-value.calls.items
            w.push-then-is_loan.new.self.items c.in_ok-op.call _ _ c.loop-value-test.true c.value-item.is c.in_ok-op.ensures.call.call_is inside
            (loan-grown c.args.spot.version c.loop-value.calls.items c.push.new.self.items w.read_calls.new.calls.items w.push-then-is_loan.new.self.items c.in_ok-op.call inner
            c.in_ok-push.ensures.items w.in_ok-read_calls.ensures.calls w.in_ok-push-2.ensures.items)
            c.loop-value.invariant.calls);
      }
  | else-is_loan w ↦
      let other = sym c.is_loan.ensures ∙ w.if-is_loan.false in
      let inside = inside_of-other c.args.spot.version c.args.loans_left (view c.value-item.result) c.in_ok-op.op c.in_ok-op.ensures.call.op_is other in
      record {
        places = rw w.before-is (places-step c.args.spot.version c.args.loans_left c.args.spot.phase c.args.spot.caller c.args.values.now c.loop-value.value-index c.value-item.result
            c.loop-value.before c.read_call.new.before c.read_call.new.before [] _ c.loop-value-test.true c.value-item.is c.in_ok-op.ensures.places inside
            (checked-nil c.args.spot.version c.read_call.new.before) c.loop-value.invariant.places);
        calls = rw w.calls-is (calls-step c.args.spot.version c.args.loans_left c.args.values.now c.loop-value.value-index c.value-item.result c.loop-value.calls.items
            c.push.new.self.items c.in_ok-op.call [] _ c.loop-value-test.true c.value-item.is c.in_ok-op.ensures.call.call_is inside c.in_ok-push.ensures.items c.loop-value.invariant.calls);
      }
]

pub returns-clause-places : goal.returns-clause-places
returns-clause-places t c =
    places-end c.args.spot.version c.args.loans_left c.args.spot.phase c.args.spot.caller c.args.values.now c.loop-value.value-index c.loop-value.before _
    c.loop-value-test.false c.loop-value.invariant.places

pub returns-clause-calls : goal.returns-clause-calls
returns-clause-calls t c =
    calls-end c.args.spot.version c.args.loans_left c.args.values.now c.loop-value.value-index c.loop-value.calls.items _ c.loop-value-test.false c.loop-value.invariant.calls
