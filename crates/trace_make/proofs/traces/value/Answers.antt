use Rattle.std.proofs.Common.{[], ◌∷◌, codes, map, ap, ◌∙◌}
use Rattle.std.specs.List.{range_with_len}
use Rattle.trace_make.specs.Calls.{fields, list}
use Rattle.trace_make.specs.Draws.{state_after}
use Rattle.trace_make.specs.Made.{trace, phase}
use Rattle.trace_make.specs.Pictures.{caller_calls}
use Rattle.trace_make.specs.Scene.{scene_calls}
use Rattle.trace_make.proofs.traces.value.Goals as goal

pub returns : goal.returns
returns c =
    let first = c.in_ok-first.ensures ∙ ap (λ ds. phase (ds ∷ [])) (c.in_ok-made.ensures.calls ∙ ap scene_calls c.from_seed-draws.ensures) in
    let behind = c.in_ok-made.ensures.moved ∙ ap (λ s. state_after s 349) c.from_seed-draws.ensures in
    let callers = c.in_ok-rendered.ensures ∙ ap (λ s. map list (map (caller_calls s c.args.frames) (range_with_len 0 c.args.callers))) behind in
    let second = c.in_ok-second.ensures ∙ ap (λ ds. fields ((codes "callers", list ds) ∷ [])) callers in
    let third = c.in_ok-third.ensures ∙ ap (λ ds. phase (ds ∷ [])) c.in_ok-released.ensures in
    c.in_ok-trace.ensures ∙ ap trace (λ i. first i ∷ second i ∷ third i ∷ [])
