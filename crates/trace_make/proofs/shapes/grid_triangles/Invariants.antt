use Rattle.std.proofs.Common.{◌≡◌}
use Rattle.std.specs.List.{flat_map, range_with_len}
use Rattle.trace_make.specs.Scene.{cell_row}
use Rattle.trace_make.proofs.shapes.grid_triangles.Given as goal

-- the first j rows
abbrev pub invariant-loop-j : goal.invariant-loop-j
invariant-loop-j l = l.numbers.items ≡ flat_map cell_row (range_with_len 0 l.j)
