use Rattle.std.proofs.Common.{◌*◌, ◌^◌, ◌≤◌, ◌∙◌, pos, ◌*ℤ◌, unsigned_abs, ap, arith}
use Rattle.std.proofs.Math.Nat.{mul-le-mul}
use Rattle.std.specs.Int.{int_div_euclid}
use Rattle.fx_math.proofs.Sizes.{abs-mul_le}
use Rattle.picture_model.proofs.Numbers.{abs-div_euclid, div-mono, div-product, product_within, read_long, read_long_product, read_span}
use Rattle.picture_model.specs.Rays.{offset}
use Rattle.picture_model.proofs.rays.offset.Goals as goal

pub div_euclid-requires-clause-nonzero : goal.div_euclid-requires-clause-nonzero
div_euclid-requires-clause-nonzero c =
    rw (read_span c.args.unit c.args.n c.requires.unit_most c.requires.row)
    (let row : 1 ≤ c.args.n = omega arith in let least = mul-le-mul c.requires.unit_least row in omega arith)

pub div_euclid-requires-clause-no_overflow : goal.div_euclid-requires-clause-no_overflow
div_euclid-requires-clause-no_overflow c =
    rw (read_span c.args.unit c.args.n c.requires.unit_most c.requires.row)
    (let most = product_within c.args.unit c.args.n 131072 4096 (2 ^ 29) c.requires.unit_most c.requires.row (omega arith) in λ h. absurd (omega arith))

pub returns-clause-value : goal.returns-clause-value
unfolding offset
returns-clause-value c =
    let above = read_long_product c.args.extent c.off_middle.result (2 ^ 46) (2 ^ 12) c.requires.extent (omega arith) (omega arith) (omega arith) (omega arith) in
    let below = read_span c.args.unit c.args.n c.requires.unit_most c.requires.row in
    read_long c.div_euclid.result c.div_euclid.type_inv
    ∙ (rw (above, below) at c.div_euclid.ensures)
    ∙ ap (λ off. int_div_euclid (c.args.extent *ℤ off) (pos (c.args.unit * c.args.n))) c.off_middle.ensures.value

pub returns-clause-size : goal.returns-clause-size
returns-clause-size c =
    let above = read_long_product c.args.extent c.off_middle.result (2 ^ 46) (2 ^ 12) c.requires.extent (omega arith) (omega arith) (omega arith) (omega arith) in
    let below = read_span c.args.unit c.args.n c.requires.unit_most c.requires.row in
    let row : 1 ≤ c.args.n = omega arith in
    let least = mul-le-mul c.requires.unit_least row in
    let quotient = abs-div_euclid (c.args.extent *ℤ c.off_middle.result) (c.args.unit * c.args.n) (omega arith) in
    let size = abs-mul_le c.args.extent c.off_middle.result (unsigned_abs c.args.extent) c.args.n (omega arith) c.off_middle.ensures.size in
    let smaller = div-mono (unsigned_abs (c.args.extent *ℤ c.off_middle.result)) (unsigned_abs c.args.extent * c.args.n) (c.args.unit * c.args.n) (omega arith) size in
    let factor = div-product (unsigned_abs c.args.extent) c.args.unit c.args.n (omega arith) (omega arith) in
    rw (read_long c.div_euclid.result c.div_euclid.type_inv, (rw (above, below) at c.div_euclid.ensures)) (omega arith)
