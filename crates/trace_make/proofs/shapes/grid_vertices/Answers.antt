use Rattle.std.proofs.Common.{◌≡◌, ◌*◌, [], refl, ap, ◌∙◌, arith}
use Rattle.std.specs.List.{flat_map, range_with_len}
use Rattle.trace_make.specs.Draws.{state_after}
use Rattle.trace_make.specs.Scene.{grid_row}
use Rattle.trace_make.proofs.Ranges.{added_of, moved_by}
use Rattle.trace_make.proofs.shapes.grid_vertices.Goals as goal

pub loop-j-init : goal.loop-j-init
unfolding state_after
loop-j-init c = record { rows = c.new-numbers.ensures.items; moved = refl }

pub loop-j-preserved : goal.loop-j-preserved
loop-j-preserved c =
    let x = c.args.draws.now.state in
    let before = c.loop-j.invariant in
    record {
      rows = added_of (λ j. grid_row (state_after x (17 * j)) j) c.loop-j.j [] _ _ _ before.rows c.in_ok-push_row.ensures.row (ap (λ s. grid_row s c.loop-j.j) before.moved);
      moved = moved_by x c.loop-j.j 17 _ _ before.moved c.in_ok-push_row.ensures.moved;
    }

pub returns-clause-vertices : goal.returns-clause-vertices
returns-clause-vertices c =
    let e : c.loop-j.j ≡ 17 = omega arith in
    c.loop-j.invariant.rows ∙ ap (λ n. flat_map (λ j. grid_row (state_after c.args.draws.now.state (17 * j)) j) (range_with_len 0 n)) e
