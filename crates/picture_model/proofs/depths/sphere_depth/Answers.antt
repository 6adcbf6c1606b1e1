use Rattle.std.proofs.Common.{◌≡◌, ◌+◌, ◌/◌, arith, ◌∙◌, sym}
use Rattle.std.proofs.lemmas.Int.{to_z-of_z}
use Rattle.picture_model.proofs.Spheres.{is_settled-before, sphere_depth-found, sphere_depth-none}
use Rattle.picture_model.proofs.depths.sphere_depth.Goals as goal

pub loop-low-preserved : goal.loop-low-preserved
loop-low-preserved c = record {
  ordered = omega arith;
  near = c.loop-low.invariant.near;
  below = λ k l. is_settled-before _ _ _ ((c.loop-low.low + c.loop-low.high) / 2) k (sym c.is_settled.ensures ∙ c.if-is_settled.false) (omega arith);
  above = c.loop-low.invariant.above;
}

pub returns-then-is_in_ball : goal.returns-then-is_in_ball
returns-then-is_in_ball c =
    let radius = to_z-of_z _ c.args.radius c.ranges.radius in
    rw radius at (sphere_depth-found _ _ _ c.loop-low.low c.loop-low.invariant.below (omega arith) (sym c.is_in_ball.ensures ∙ c.if-is_in_ball.true))

pub returns-else-is_in_ball : goal.returns-else-is_in_ball
returns-else-is_in_ball c =
    let radius = to_z-of_z _ c.args.radius c.ranges.radius in
    let same : c.loop-low.low ≡ c.loop-low.high = omega arith in
    rw radius at (sphere_depth-none _ _ _ c.loop-low.low c.loop-low.invariant.below (omega arith) (λ lt. rw same (c.loop-low.invariant.above (omega arith))) (sym c.is_in_ball.ensures ∙ c.if-is_in_ball.false))
