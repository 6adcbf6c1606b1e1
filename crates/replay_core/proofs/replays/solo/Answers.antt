use Rattle.std.proofs.Common.{◌≡◌, ◌∙◌, List, ap, false, fold, sym}
use Rattle.std.specs.List.{enumerate_from}
use Rattle.std.specs.Result.{is_err}
use Rattle.seq_model.specs.Endings.{ended}
use Rattle.replay_core.proofs.ReplayFacts.{if_not_err}
use Rattle.replay_core.specs.Solo.{Replay, phase_replayed, solo, trace_replayed}
use Rattle.trace_text.specs.declared.calls.Phase.{Phase}
use Rattle.replay_core.proofs.replays.solo.Goals as goal

pub returns-clause-history : goal.returns-clause-history
unfolding solo
returns-clause-history c whole =
    let done : is_err c.replay_phases.result ≡ false = sym c.is_err-short.ensures.value ∙ sym c.finish.ensures.short ∙ whole in
    let replayed : c.replay_phases.new.self ≡ trace_replayed c.args.trace.now =
    if_not_err c.replay_phases.result done c.replay_phases.ensures
    ∙ ap (λ (phases : List Phase). fold phase_replayed c.in-Ok.replay (enumerate_from 0 phases)) c.as_slice.ensures
    ∙ ap (λ (r : Replay). fold phase_replayed r (enumerate_from 0 c.args.trace.now.phases)) c.in-Ok.ensures.ok in
    c.finish.ensures.history ∙ ap (λ (r : Replay). (ended r.past).seen) replayed

pub returns-clause-legal : goal.returns-clause-legal
returns-clause-legal c = c.finish.ensures.legal

pub returns-clause-told : goal.returns-clause-told
returns-clause-told c = c.finish.ensures.told

pub returns-clause-builds : goal.returns-clause-builds
returns-clause-builds c = c.finish.ensures.builds
