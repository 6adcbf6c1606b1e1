use Rattle.std.proofs.Common.{◌*◌, ◌^◌, ◌≤◌, unsigned_abs, ap, arith}
use Rattle.std.proofs.Math.Nat.{div-le_self}
use Rattle.fx_math.proofs.Sizes.{abs-mul_le}
use Rattle.picture_model.proofs.Numbers.{abs-between, read_cast, read_long, read_short, window_quotient}
use Rattle.picture_model.specs.Rays.{in_window}
use Rattle.picture_model.proofs.rays.in_window.Goals as goal

pub across-requires-clause-right : goal.across-requires-clause-right
across-requires-clause-right c =
    let length_size = abs-between 1 (2 ^ 26) c.args.length c.requires.length in
    let aspect_size = abs-between 1 (2 ^ 20) c.args.aspect c.requires.aspect in
    let length = read_short c.args.length (omega arith) in
    let aspect = read_short c.args.aspect (omega arith) in
    let wide : unsigned_abs c.widened.result ≤ unsigned_abs c.args.length * 2 ^ 20 =
    rw (rw (length, aspect) at c.widened.ensures) (abs-mul_le c.args.length c.args.aspect (unsigned_abs c.args.length) (2 ^ 20) (omega arith) aspect_size) in
    let quotient = window_quotient (unsigned_abs c.widened.result) (unsigned_abs c.args.length) c.args.unit c.requires.unit_least wide in
    let smaller = div-le_self (16 * unsigned_abs c.args.length) c.args.unit in
    let size = rw (read_long c.widened.result c.widened.type_inv) at c.offset-right.ensures.size in
    rw (read_long c.offset-right.result c.offset-right.type_inv) (omega arith)

pub returns-clause-value : goal.returns-clause-value
unfolding in_window
returns-clause-value c =
    let length_size = abs-between 1 (2 ^ 26) c.args.length c.requires.length in
    let aspect_size = abs-between 1 (2 ^ 20) c.args.aspect c.requires.aspect in
    let length = read_short c.args.length (omega arith) in
    let aspect = read_short c.args.aspect (omega arith) in
    let length_cast = read_cast c.args.length (omega arith) in
    let wide = read_long c.widened.result c.widened.type_inv in
    let right = read_long c.offset-right.result c.offset-right.type_inv in
    let up = read_long c.offset-up.result c.offset-up.type_inv in
    cc

pub returns-clause-size : goal.returns-clause-size
returns-clause-size c =
    let length_size = abs-between 1 (2 ^ 26) c.args.length c.requires.length in
    let aspect_size = abs-between 1 (2 ^ 20) c.args.aspect c.requires.aspect in
    let length = read_short c.args.length (omega arith) in
    let aspect = read_short c.args.aspect (omega arith) in
    let wide : unsigned_abs c.widened.result ≤ unsigned_abs c.args.length * 2 ^ 20 =
    rw (rw (length, aspect) at c.widened.ensures) (abs-mul_le c.args.length c.args.aspect (unsigned_abs c.args.length) (2 ^ 20) (omega arith) aspect_size) in
    let quotient = window_quotient (unsigned_abs c.widened.result) (unsigned_abs c.args.length) c.args.unit c.requires.unit_least wide in
    let right_size = rw (read_long c.widened.result c.widened.type_inv) at c.offset-right.ensures.size in
    let up_size = rw (read_cast c.args.length (omega arith)) at c.offset-up.ensures.size in
    let right = ap unsigned_abs (read_long c.offset-right.result c.offset-right.type_inv) in
    let up = ap unsigned_abs (read_long c.offset-up.result c.offset-up.type_inv) in
    omega arith
