use Rattle.std.proofs.Common.{◌^◌, ◌+ℤ◌, unsigned_abs, arith, ap, ◌∙◌}
use Rattle.std.proofs.lemmas.Int.{ints}
use Rattle.picture_model.proofs.Numbers.{abs-between, product_within, read_wide, read_wide_count, read_wide_sum}
use Rattle.picture_model.specs.Shading.{component, shown}
use Rattle.picture_model.proofs.shading.shown.Goals as goal

pub returns-clause-value : goal.returns-clause-value
unfolding shown
returns-clause-value c =
    let color = abs-between 0 (2 ^ 31) c.component.result c.component.ensures.size in
    let rest = read_wide_count c.args.blend.now.rest (omega arith) in
    let room = product_within (unsigned_abs c.component.result) c.args.blend.now.rest (2 ^ 31) 65536 (2 ^ 47) color c.requires.rest (omega arith) in
    let size = rw (read_wide c.component.result c.component.type_inv, rest) at c.product.ensures.size in
    let sum = read_wide_sum (component c.args.blend.now.sum c.args.i) c.product.result (omega (arith, c.requires.sum.size)) (omega arith) in
    let value = rw (read_wide c.component.result c.component.type_inv, rest, c.component.ensures.value) at c.product.ensures.value in
    sum ∙ ap (λ z. component c.args.blend.now.sum c.args.i +ℤ z) value

pub returns-clause-sign : goal.returns-clause-sign
returns-clause-sign c =
    let color = abs-between 0 (2 ^ 31) c.component.result c.component.ensures.size in
    let rest = read_wide_count c.args.blend.now.rest (omega arith) in
    let room = product_within (unsigned_abs c.component.result) c.args.blend.now.rest (2 ^ 31) 65536 (2 ^ 47) color c.requires.rest (omega arith) in
    let size = rw (read_wide c.component.result c.component.type_inv, rest) at c.product.ensures.size in
    let sum = read_wide_sum (component c.args.blend.now.sum c.args.i) c.product.result (omega (arith, c.requires.sum.size)) (omega arith) in
    let sign = c.product.ensures.sign in
    rw sum (omega (arith, ints, c.requires.sum.sign))
