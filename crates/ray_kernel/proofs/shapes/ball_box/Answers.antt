use Rattle.std.proofs.Common.{arith}
use Rattle.std.proofs.lemmas.Int.{ints}
use Rattle.fx_math.proofs.Sizes.{abs_x, abs_y, abs_z}
use Rattle.ray_kernel.proofs.shapes.ball_box.Goals as goal

pub overflow_sub-result : goal.overflow_sub-result
overflow_sub-result c =
    let size = abs_x c.args.centre in
    let near = c.requires.centre in
    let least = c.requires.radius.from in
    let most = c.requires.radius.to in
    omega (arith, ints)

pub overflow_sub-result-2 : goal.overflow_sub-result-2
overflow_sub-result-2 c =
    let size = abs_y c.args.centre in
    let near = c.requires.centre in
    let least = c.requires.radius.from in
    let most = c.requires.radius.to in
    omega (arith, ints)

pub overflow_sub-result-3 : goal.overflow_sub-result-3
overflow_sub-result-3 c =
    let size = abs_z c.args.centre in
    let near = c.requires.centre in
    let least = c.requires.radius.from in
    let most = c.requires.radius.to in
    omega (arith, ints)

pub overflow_add-result : goal.overflow_add-result
overflow_add-result c =
    let size = abs_x c.args.centre in
    let near = c.requires.centre in
    let least = c.requires.radius.from in
    let most = c.requires.radius.to in
    omega (arith, ints)

pub overflow_add-result-2 : goal.overflow_add-result-2
overflow_add-result-2 c =
    let size = abs_y c.args.centre in
    let near = c.requires.centre in
    let least = c.requires.radius.from in
    let most = c.requires.radius.to in
    omega (arith, ints)

pub overflow_add-result-3 : goal.overflow_add-result-3
overflow_add-result-3 c =
    let size = abs_z c.args.centre in
    let near = c.requires.centre in
    let least = c.requires.radius.from in
    let most = c.requires.radius.to in
    omega (arith, ints)

pub returns : goal.returns
returns c =
    let size_x = abs_x c.args.centre in
    let size_y = abs_y c.args.centre in
    let size_z = abs_z c.args.centre in
    let near = c.requires.centre in
    let least = c.requires.radius.from in
    let most = c.requires.radius.to in
    record {
      x = record { from = omega (arith, ints); to = omega (arith, ints) };
      y = record { from = omega (arith, ints); to = omega (arith, ints) };
      z = record { from = omega (arith, ints); to = omega (arith, ints) };
    }
