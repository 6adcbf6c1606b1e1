use Rattle.std.proofs.Common.{◌+◌, ap}
use Rattle.trace_text.specs.Places.{caller_places}
use Rattle.trace_text.specs.Reading.{caller_of}
use Rattle.trace_text.proofs.ReadingFacts.{handed_on, made-step, rest-broken, rest-ends, rest-step, tells_more}
use Rattle.trace_text.proofs.reader.read_callers.Goals as goal

pub returns-in_err-read_caller-clause-places : goal.returns-in_err-read_caller-clause-places
returns-in_err-read_caller-clause-places c =
    rw (handed_on c.from_residual-in_err-read_caller.result c.in_err-read_caller.field-0.0 c.from_residual-in_err-read_caller.ensures)
    (tells_more _ _ c.in_err-read_caller.field-0.0
    (λ fault is. rest-broken (caller_places c.args.version c.args.phase) c.args.version c.args.values.now c.loop-value.value-index c.loop-value.caller c.value-item.result
    c.loop-value.before fault _ c.loop-value-test.true c.value-item.is is c.loop-value.invariant.places)
    c.in_err-read_caller.ensures.places)

pub loop-value-preserved : goal.loop-value-preserved
loop-value-preserved c = record {
  number = ap (λ n. n + 1) c.loop-value.invariant.number;
  places = rest-step (caller_places c.args.version c.args.phase) c.args.version c.args.values.now c.loop-value.value-index c.loop-value.caller c.value-item.result
      c.loop-value.before c.read_caller.new.before _ c.loop-value-test.true c.value-item.is c.in_ok-read_caller.ensures.places c.loop-value.invariant.places;
  callers = made-step (caller_of c.args.version) c.args.values.now c.loop-value.value-index c.value-item.result c.loop-value.callers.items c.push.new.self.items
      c.in_ok-read_caller.field-0 _ c.loop-value-test.true c.value-item.is c.in_ok-read_caller.ensures.caller c.in_ok-push.ensures.items c.loop-value.invariant.callers;
}

pub returns-clause-places : goal.returns-clause-places
returns-clause-places c =
    rest-ends (caller_places c.args.version c.args.phase) c.args.version c.args.values.now c.loop-value.value-index c.loop-value.caller c.loop-value.before _
    c.loop-value-test.false c.loop-value.invariant.places
