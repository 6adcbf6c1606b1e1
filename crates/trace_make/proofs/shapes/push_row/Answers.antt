use Rattle.std.proofs.Common.{rules, FitsSigned, w64}
use Rattle.std.proofs.lemmas.Int.{to_z-of_z}
use Rattle.std.proofs.Common.{[], ◌∷◌, pos, refl, ap, sym, ◌∙◌, append-nil}
use Rattle.trace_make.specs.Draws.{next_state, number_of, state_after}
use Rattle.trace_make.specs.Scene.{grid_vertex}
use Rattle.trace_make.proofs.Ranges.{added_of, state-next}
use Rattle.trace_make.proofs.shapes.push_row.Goals as goal

pub loop-i-init : goal.loop-i-init
unfolding state_after
loop-i-init c = record { vertices = sym (append-nil _); moved = refl }

pub loop-i-preserved : goal.loop-i-preserved
unfolding state_after
loop-i-preserved c =
    let before = c.loop-i.invariant in
    let moved = c.height-y.ensures.moved ∙ ap next_state before.moved in
    let fits-x : FitsSigned w64 c.grid_coordinate.result = search rules in
    let fits-y : FitsSigned w64 c.height-y.result = search rules in
    let fits-z : FitsSigned w64 c.grid_coordinate-in-loop-i.result = search rules in
    let x = to_z-of_z w64 c.grid_coordinate.result fits-x ∙ c.grid_coordinate.ensures in
    let z = to_z-of_z w64 c.grid_coordinate-in-loop-i.result fits-z ∙ c.grid_coordinate-in-loop-i.ensures in
    let y = to_z-of_z w64 c.height-y.result fits-y ∙ c.height-y.ensures.height ∙ ap (λ s. pos (number_of 8192 s)) moved in
    record {
      vertices = added_of (grid_vertex c.args.draws.now.state c.args.j) c.loop-i.i _ _ _ _ before.vertices c.in_ok-push_three.ensures
          (λ k. x k ∷ y k ∷ z k ∷ []);
      moved = moved ∙ sym (state-next c.args.draws.now.state c.loop-i.i);
    }
