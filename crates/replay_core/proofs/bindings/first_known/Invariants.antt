use Rattle.std.proofs.Common.{◌≡◌, drop}
use Rattle.replay_core.specs.Found.{first_known}
use Rattle.replay_core.proofs.bindings.first_known.Given as goal

-- the first one is among those that are left
abbrev pub invariant-loop-binding : goal.invariant-loop-binding
invariant-loop-binding l = first_known (drop l.binding-index l.bound) l.phase l.caller ≡ first_known l.bound l.phase l.caller
