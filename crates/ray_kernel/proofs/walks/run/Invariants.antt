use Rattle.std.proofs.Common.{◌+◌, ◌-◌, ◌^◌, ◌≤◌, IsSome, length, min}
use Rattle.ray_kernel.specs.Searches.{IsSearch}
use Rattle.ray_kernel.specs.Walks.{leaves_in, nodes_in}
use Rattle.ray_kernel.proofs.walks.run.Given as goal

-- what was found, and how often it was tested: no more than does not wait, and at least once for a hit
abbrev pub invariant-loop-branch : goal.invariant-loop-branch
invariant-loop-branch g l = record {
  finds : IsSearch l.search l.waiting.items l.best;
  tests : l.initial.tests ≤ l.tests;
  once : l.tests + leaves_in l.waiting.items ≤ l.initial.tests + length l.search.placed;
  counted : IsSome l.best → min (l.initial.tests + 1) (2 ^ 64 - 1) ≤ l.tests;
}

-- the nodes that wait
abbrev pub decreases-loop-branch : goal.decreases-loop-branch
decreases-loop-branch g l = nodes_in l.waiting.items
