use Rattle.std.proofs.Common.{◌≡◌, ◌++◌, map, take}
use Rattle.trace_make.specs.Calls.{release_call, written}
use Rattle.trace_make.proofs.pictures.release_each.Given as goal

-- the labels so far
abbrev pub invariant-loop-label : goal.invariant-loop-label
invariant-loop-label l = written l.calls ≡ written l.initial.calls ++ map release_call (map (λ k. k.now) (take l.label-index l.labels))
