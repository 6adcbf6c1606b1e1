use Rattle.std.proofs.Common.{◌*◌, ◌^◌, ◌+ℤ◌, unsigned_abs, FitsSigned, arith, rules, ap, ◌∙◌}
use Rattle.std.proofs.lemmas.Int.{ints, to_z-of_z}
use Rattle.picture_model.proofs.Numbers.{abs-between, product_within, read_wide, read_wide_count, read_wide_sum}
use Rattle.picture_model.specs.Shading.{blended, component}
use mir.Syntax.{w32}
use Rattle.picture_model.proofs.shading.blended.Goals as goal

pub returns-clause-value : goal.returns-clause-value
unfolding blended
returns-clause-value c =
    let range : FitsSigned w32 c.args.row.now.opacity = search rules in
    let weight_is = rw (to_z-of_z w32 c.args.row.now.opacity range) at c.weight-taken.ensures.value in
    let light = abs-between 0 (2 ^ 72) c.radiance.result c.radiance.ensures.size in
    let taken = read_wide_count c.weight-taken.result (omega arith) in
    let room = product_within (unsigned_abs c.radiance.result) c.weight-taken.result (2 ^ 72) c.weight-taken.result (2 ^ 72 * c.weight-taken.result) light (omega arith) (omega arith) in
    let size = rw (read_wide c.radiance.result c.radiance.type_inv, taken) at c.product.ensures.size in
    let sum = read_wide_sum (component c.args.blend.now.sum c.args.i) c.product.result (omega (arith, c.requires.sum.size)) (omega arith) in
    let value = rw (read_wide c.radiance.result c.radiance.type_inv, taken, c.radiance.ensures.value, weight_is) at c.product.ensures.value in
    sum ∙ ap (λ z. component c.args.blend.now.sum c.args.i +ℤ z) value

pub returns-clause-size : goal.returns-clause-size
returns-clause-size c =
    let range : FitsSigned w32 c.args.row.now.opacity = search rules in
    let weight_is = rw (to_z-of_z w32 c.args.row.now.opacity range) at c.weight-taken.ensures.value in
    let light = abs-between 0 (2 ^ 72) c.radiance.result c.radiance.ensures.size in
    let taken = read_wide_count c.weight-taken.result (omega arith) in
    let room = product_within (unsigned_abs c.radiance.result) c.weight-taken.result (2 ^ 72) c.weight-taken.result (2 ^ 72 * c.weight-taken.result) light (omega arith) (omega arith) in
    let size = rw (read_wide c.radiance.result c.radiance.type_inv, taken) at c.product.ensures.size in
    let sum = read_wide_sum (component c.args.blend.now.sum c.args.i) c.product.result (omega (arith, c.requires.sum.size)) (omega arith) in
    let sign = c.product.ensures.sign in
    rw (sum, ← weight_is)
    (record {
      sign = omega (arith, ints, c.requires.sum.sign);
      size = omega (arith, ints, c.requires.sum.size);
    })
