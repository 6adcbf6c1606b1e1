use Rattle.std.proofs.Common.{Err, Result, sym, ap, ◌∙◌, subst, true≢false}
use Rattle.serde_json.specs.View.{view}
use Rattle.trace_text.specs.Reading.{IsAnswerTo}
use Rattle.trace_text.specs.declared.calls.Trace.{Trace}
use Rattle.trace_text.specs.declared.fault.TraceFault.{TraceFault}
use Rattle.trace_text.proofs.WholeFacts.{trace_of-json, trace_of-no_json}
use Rattle.trace_text.proofs.reader.read_trace.Goals as goal

pub returns-in-Ok : goal.returns-in-Ok
returns-in-Ok c =
    let Answers : Result Trace TraceFault → Type 0 = λ outcome. IsAnswerTo outcome c.read_root.result in
    subst Answers (sym (trace_of-json c.args.bytes.now (view c.in-Ok.value) c.if-bytes-gt-MOST_BYTES.false c.in-Ok.ensures.ok.0 c.in-Ok.ensures.ok.1)) c.read_root.ensures

pub returns-in-Err-2 : goal.returns-in-Err-2
returns-in-Err-2 c =
    trace_of-no_json c.args.bytes.now c.if-bytes-gt-MOST_BYTES.false
    (c.in-Err.ensures.err (λ memory. true≢false (sym (c.is_memory.ensures.1 memory) ∙ c.if-is_memory.false)))
    ∙ ap Err (sym c.at_start-in-Err-2.ensures)
