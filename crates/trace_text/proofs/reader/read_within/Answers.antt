use Rattle.std.proofs.Common.{◌+◌, ap}
use Rattle.trace_text.specs.Places.{phase_places}
use Rattle.trace_text.specs.Reading.{phase_of}
use Rattle.trace_text.proofs.ReadingFacts.{handed_on, made-step, rest-broken, rest-ends, rest-step, tells_more}
use Rattle.trace_text.proofs.reader.read_within.Goals as goal

pub returns-in_err-read_phase-clause-places : goal.returns-in_err-read_phase-clause-places
returns-in_err-read_phase-clause-places c =
    rw (handed_on c.from_residual-in_err-read_phase.result c.in_err-read_phase.field-0.0 c.from_residual-in_err-read_phase.ensures)
    (tells_more _ _ c.in_err-read_phase.field-0.0
    (λ fault is. rest-broken (phase_places c.args.version) c.args.version c.args.values.now c.loop-value.value-index c.loop-value.number c.value-item.result
    c.loop-value.before fault _ c.loop-value-test.true c.value-item.is is c.loop-value.invariant.places)
    c.in_err-read_phase.ensures.places)

pub loop-value-preserved : goal.loop-value-preserved
loop-value-preserved c = record {
  number = ap (λ n. n + 1) c.loop-value.invariant.number;
  places = rest-step (phase_places c.args.version) c.args.version c.args.values.now c.loop-value.value-index c.loop-value.number c.value-item.result
      c.loop-value.before c.read_phase.new.before _ c.loop-value-test.true c.value-item.is c.in_ok-read_phase.ensures.places c.loop-value.invariant.places;
  phases = made-step (phase_of c.args.version) c.args.values.now c.loop-value.value-index c.value-item.result c.loop-value.phases.items c.push.new.self.items
      c.in_ok-read_phase.field-0 _ c.loop-value-test.true c.value-item.is c.in_ok-read_phase.ensures.phase c.in_ok-push.ensures.items c.loop-value.invariant.phases;
}

pub returns-clause-places : goal.returns-clause-places
returns-clause-places c =
    rest-ends (phase_places c.args.version) c.args.version c.args.values.now c.loop-value.value-index c.loop-value.number c.loop-value.before _
    c.loop-value-test.false c.loop-value.invariant.places
