use Rattle.std.proofs.Common.{◌≡◌, drop, fold}
use Rattle.replay_core.specs.Solo.{replayed}
use Rattle.replay_core.proofs.replays.Replay.replay_calls.Given as goal

-- what is left to replay makes the whole of it
abbrev pub invariant-loop-c : goal.invariant-loop-c
invariant-loop-c l = fold (replayed l.phase l.caller) l.self (drop l.c-index l.calls) ≡ fold (replayed l.phase l.caller) l.fn.self l.calls
