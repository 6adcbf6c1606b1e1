use Rattle.std.proofs.Common.{◌∙◌}
use Rattle.trace_make.specs.Made.{made}
use Rattle.made_traces.proofs.MadeTexts.{made_text_is_trace, never_broken}
use Rattle.made_traces.proofs.traces.make_trace.Goals as goal

pub unreachable-requires : goal.unreachable-requires
unreachable-requires c =
    never_broken c.as_bytes.result.now (made c.args.seed c.args.callers c.args.frames) c.read_trace.result c.in-Err-Broken.field-0 c.in-Err-Broken.field-0-0
    (made_text_is_trace c.args.seed c.args.callers c.args.frames c.requires.some_callers c.requires.few_callers c.requires.few_frames)
    (c.as_bytes.ensures.value ∙ c.in_ok-text.ensures) c.read_trace.ensures c.in-Err-Broken.is c.in-Err-Broken.field-0-is
