use Rattle.std.proofs.Common.{◌∙◌, ◌<◌, List, ap, fold, get_or, length, refl, arith}
use Rattle.std.specs.List.{enumerate_from}
use Rattle.replay_core.proofs.ReplayFacts.{folded_all, folded_more}
use Rattle.replay_core.specs.Solo.{caller_replayed, phase_replayed}
use Rattle.trace_text.specs.declared.calls.Caller.{Caller}
use Rattle.replay_core.proofs.replays.Replay.replay_phases.Goals as goal

pub loop-i-preserved : goal.loop-i-preserved
loop-i-preserved c =
    let below : c.loop-i.i < length c.args.phases.now = omega arith in
    folded_more phase_replayed c.loop-i.self c.replay_callers.new.self c.args.phases.now c.loop-i.i c.index-phases-i.result (get_or c.args.phases.now c.loop-i.i c.index-phases-i.result) _
    below refl
    (c.in_ok-replay_callers.ensures ∙ ap (λ (callers : List Caller). fold (caller_replayed c.loop-i.i) c.loop-i.self (enumerate_from 0 callers)) c.as_slice.ensures)
    c.loop-i.invariant

pub returns : goal.returns
returns c = folded_all phase_replayed c.loop-i.self c.args.phases.now c.loop-i.i _ c.loop-i-test.false c.loop-i.invariant
