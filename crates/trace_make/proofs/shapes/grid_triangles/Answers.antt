use Rattle.std.proofs.Common.{◌≡◌, [], refl, ap, ◌∙◌, arith}
use Rattle.std.specs.List.{flat_map, range_with_len}
use Rattle.trace_make.specs.Scene.{cell_row}
use Rattle.trace_make.proofs.Ranges.{added_of}
use Rattle.trace_make.proofs.shapes.grid_triangles.Goals as goal

pub loop-j-preserved : goal.loop-j-preserved
loop-j-preserved c = added_of cell_row c.loop-j.j [] _ _ _ c.loop-j.invariant c.in_ok-push_cells.ensures refl

pub returns : goal.returns
returns c =
    let e : c.loop-j.j ≡ 16 = omega arith in
    c.loop-j.invariant ∙ ap (λ n. flat_map cell_row (range_with_len 0 n)) e
