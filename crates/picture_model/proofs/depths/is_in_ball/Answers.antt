use Rattle.std.proofs.Common.{◌^◌, ◌≤◌, pos, ◌*ℤ◌, unsigned_abs, FitsSigned, arith}
use Rattle.std.proofs.lemmas.Int.{ints, to_z-of_z}
use Rattle.fx_math.proofs.Sizes.{abs-mul_le}
use Rattle.picture_model.proofs.Numbers.{read_wide}
use Rattle.picture_model.specs.Depths.{is_in_ball}
use mir.Syntax.{w128}
use Rattle.picture_model.proofs.depths.is_in_ball.Goals as goal

pub returns : goal.returns
unfolding is_in_ball
returns c =
    let size : unsigned_abs c.args.radius ≤ 2 ^ 28 = omega (arith, ints, c.requires.sphere.size.from, c.requires.sphere.size.to) in
    let wide : unsigned_abs (pos 65536 *ℤ c.args.radius) ≤ 2 ^ 44 = abs-mul_le (pos 65536) c.args.radius 65536 (2 ^ 28) (omega arith) size in
    let squared = abs-mul_le (pos 65536 *ℤ c.args.radius) (pos 65536 *ℤ c.args.radius) (2 ^ 44) (2 ^ 44) wide wide in
    let f = c.ranges.radius in
    let g : FitsSigned w128 c.args.radius = omega (arith, ints) in
    let h : FitsSigned w128 (pos 65536 *ℤ c.args.radius) = omega (arith, ints) in
    let k : FitsSigned w128 (pos 65536 *ℤ c.args.radius *ℤ (pos 65536 *ℤ c.args.radius)) = omega (arith, ints) in
    rw (read_wide c.distance_at.result c.distance_at.type_inv, c.distance_at.ensures) (simp (to_z-of_z, f, g, h, k))
