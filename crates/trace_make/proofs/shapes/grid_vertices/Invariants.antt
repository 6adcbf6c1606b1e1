use Rattle.std.proofs.Common.{◌≡◌, ◌*◌}
use Rattle.std.specs.List.{flat_map, range_with_len}
use Rattle.trace_make.specs.Draws.{state_after}
use Rattle.trace_make.specs.Scene.{grid_row}
use Rattle.trace_make.proofs.shapes.grid_vertices.Given as goal

-- the first j rows
abbrev pub invariant-loop-j : goal.invariant-loop-j
invariant-loop-j l = record {
  rows : l.numbers.items ≡ flat_map (λ j. grid_row (state_after l.initial.draws.state (17 * j)) j) (range_with_len 0 l.j);
  moved : l.draws.state ≡ state_after l.initial.draws.state (17 * l.j);
}
