use Rattle.std.proofs.Common.{◌≡◌, ◌++◌}
use Rattle.std.specs.List.{flat_map, range_with_len}
use Rattle.trace_make.specs.Draws.{state_after}
use Rattle.trace_make.specs.Scene.{grid_vertex}
use Rattle.trace_make.proofs.shapes.push_row.Given as goal

-- the first i vertices of the row
abbrev pub invariant-loop-i : goal.invariant-loop-i
invariant-loop-i l = record {
  vertices : l.numbers.items ≡ l.initial.numbers.items ++ flat_map (grid_vertex l.initial.draws.state l.j) (range_with_len 0 l.i);
  moved : l.draws.state ≡ state_after l.initial.draws.state l.i;
}
