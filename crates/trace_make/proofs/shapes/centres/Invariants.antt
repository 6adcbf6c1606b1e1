use Rattle.std.proofs.Common.{◌≡◌, ◌*◌}
use Rattle.std.specs.List.{flat_map, range_with_len}
use Rattle.trace_make.specs.Draws.{state_after}
use Rattle.trace_make.specs.Scene.{centre}
use Rattle.trace_make.proofs.shapes.centres.Given as goal

-- the centres of the spheres so far
abbrev pub invariant-loop-sphere : goal.invariant-loop-sphere
invariant-loop-sphere l = record {
  spheres : l.numbers.items ≡ flat_map (λ k. centre (state_after l.initial.draws.state (3 * k))) (range_with_len 0 l._sphere);
  moved : l.draws.state ≡ state_after l.initial.draws.state (3 * l._sphere);
}
