use Rattle.std.proofs.Common.{◌≡◌, drop, fold}
use Rattle.std.specs.List.{enumerate_from}
use Rattle.replay_core.specs.Solo.{phase_replayed}
use Rattle.replay_core.proofs.replays.Replay.replay_phases.Given as goal

-- what is left to replay makes the whole of it
abbrev pub invariant-loop-i : goal.invariant-loop-i
invariant-loop-i l = fold phase_replayed l.self (enumerate_from l.i (drop l.i l.phases)) ≡ fold phase_replayed l.fn.self (enumerate_from 0 l.phases)
