use Rattle.std.proofs.Common.{refl}
use Rattle.std.proofs.lemmas.Int.{to_z-of_z}
use Rattle.picture_model.proofs.Numbers.{read_wide}
use Rattle.picture_model.specs.Depths.{is_settled}
use Rattle.picture_model.proofs.depths.is_settled.Goals as goal

pub returns-then-is_in_ball : goal.returns-then-is_in_ball
unfolding is_settled
returns-then-is_in_ball c =
    let same = to_z-of_z _ c.args.radius c.ranges.radius in
    let test = rw same at c.is_in_ball.ensures in
    rw (← test, c.if-is_in_ball.true) refl

pub returns-else-is_in_ball : goal.returns-else-is_in_ball
unfolding is_settled
returns-else-is_in_ball c =
    let same = to_z-of_z _ c.args.radius c.ranges.radius in
    let test = rw same at c.is_in_ball.ensures in
    rw (← test, c.if-is_in_ball.false, read_wide c.distance_at.result c.distance_at.type_inv, read_wide c.distance_at-else-is_in_ball.result c.distance_at-else-is_in_ball.type_inv, c.distance_at.ensures, c.distance_at-else-is_in_ball.ensures) refl
