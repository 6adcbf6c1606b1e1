use Rattle.trace_make.specs.Made.{made, trace, phases}
use Rattle.trace_make.proofs.Floats.{text_of, trace-plain}
use Rattle.trace_make.proofs.traces.make.Goals as goal

pub returns : goal.returns
unfolding lib.Utf8.encode made
returns c =
    text_of _ _ _ (trace (phases c.args.seed c.args.callers c.args.frames)) c.in_ok-value.ensures (trace-plain c.args.seed c.args.callers c.args.frames)
    c.in_ok-text.ensures.text c.in_ok-push.ensures.bytes
