use Rattle.std.proofs.Common.{◌<◌, length, sym, arith}
use Rattle.replay_core.proofs.ReplayFacts.{folded_all, folded_more}
use Rattle.replay_core.specs.Solo.{caller_replayed}
use Rattle.replay_core.proofs.replays.Replay.replay_callers.Goals as goal

pub loop-i-preserved : goal.loop-i-preserved
loop-i-preserved c =
    let below : c.loop-i.i < length c.args.callers.now = omega arith in
    folded_more (caller_replayed c.args.phase) c.loop-i.self c.replay_caller.new.self c.args.callers.now c.loop-i.i c.index-callers-i.result c.index-callers-i.result _
    below (sym c.index-callers-i.is) c.in_ok-replay_caller.ensures c.loop-i.invariant

pub returns : goal.returns
returns c = folded_all (caller_replayed c.args.phase) c.loop-i.self c.args.callers.now c.loop-i.i _ c.loop-i-test.false c.loop-i.invariant
