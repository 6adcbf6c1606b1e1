use Rattle.std.proofs.Common.{◌+◌, ◌*◌, refl}
use Rattle.trace_make.specs.Scene.{cell_triangles}
use Rattle.trace_make.proofs.Ranges.{added_of}
use Rattle.trace_make.proofs.shapes.push_cells.Goals as goal

pub loop-i-preserved : goal.loop-i-preserved
loop-i-preserved c = added_of (λ i. cell_triangles (17 * c.args.j + i)) c.loop-i.i _ _ _ _ c.loop-i.invariant c.in_ok-push_cell.ensures refl
