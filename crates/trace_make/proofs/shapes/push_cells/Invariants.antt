use Rattle.std.proofs.Common.{◌≡◌, ◌+◌, ◌*◌, ◌++◌}
use Rattle.std.specs.List.{flat_map, range_with_len}
use Rattle.trace_make.specs.Scene.{cell_triangles}
use Rattle.trace_make.proofs.shapes.push_cells.Given as goal

-- the first i cells of the row
abbrev pub invariant-loop-i : goal.invariant-loop-i
invariant-loop-i l = l.numbers.items ≡ l.initial.numbers.items ++ flat_map (λ i. cell_triangles (17 * l.j + i)) (range_with_len 0 l.i)
