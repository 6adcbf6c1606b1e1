use Rattle.std.proofs.Common.{◌≡◌, ◌^◌, ◌≤◌, ℤ, ◌+ℤ◌, unsigned_abs, FitsSigned, arith, rules, ap, ◌∙◌}
use Rattle.std.proofs.lemmas.Int.{ints, to_z-of_z}
use Rattle.picture_model.proofs.Lights.{shares-end, shares-step}
use Rattle.picture_model.proofs.Numbers.{abs-between, between, product_within, read_wide, read_wide_cast}
use Rattle.picture_model.specs.Shading.{incoming, shares}
use mir.Syntax.{w32, w128}
use Rattle.picture_model.proofs.shading.incoming.Goals as goal

pub loop-k-init : goal.loop-k-init
unfolding incoming
loop-k-init c =
    let range : FitsSigned w32 c.args.lighting.now.ambient_radiance = search rules in
    let color = read_wide c.component.result c.component.type_inv in
    let strength = read_wide_cast c.args.lighting.now.ambient_radiance range in
    let color_size = abs-between 0 (2 ^ 31) c.component.result c.component.ensures.size in
    let strength_size : unsigned_abs c.args.lighting.now.ambient_radiance ≤ 2 ^ 31 = omega (arith, ints) in
    let room = product_within (unsigned_abs c.component.result) (unsigned_abs c.args.lighting.now.ambient_radiance) (2 ^ 31) (2 ^ 31) (2 ^ 62) color_size strength_size (omega arith) in
    let size = rw (color, strength) at c.product-sum.ensures.size in
    let value = rw (color, strength, c.component.ensures.value) at c.product-sum.ensures.value in
    rw (read_wide c.product-sum.result c.product-sum.type_inv)
    (record {
      value = ap (λ z. z +ℤ shares c.args.i c.args.normal c.args.point c.args.lighting.now.lights) value;
      sign = c.product-sum.ensures.sign;
      size = omega arith;
    })

pub overflow_add-sum : goal.overflow_add-sum
overflow_add-sum c =
    let share = abs-between 0 (2 ^ 48) c.share_of-sum.result c.share_of-sum.ensures.size in
    rw (c.loop-k.sum-is, read_wide c.share_of-sum.result c.share_of-sum.type_inv) (omega (arith, ints))

sum_assoc : (a b d : ℤ) → (a +ℤ b) +ℤ d ≡ a +ℤ (b +ℤ d)
sum_assoc a b d = omega (arith, ints)

pub loop-k-preserved : goal.loop-k-preserved
loop-k-preserved c =
    let share = abs-between 0 (2 ^ 48) c.share_of-sum.result c.share_of-sum.ensures.size in
    let from = c.share_of-sum.ensures.size.from in
    let fits : FitsSigned w128 (c.loop-k.sum +ℤ c.share_of-sum.result) = omega (arith, ints) in
    let step = shares-step c.args.i c.args.normal c.args.point c.args.lighting.now.lights c.loop-k.k c.get.result.now c.get.ensures in
    let before = rw (c.loop-k.sum-is, step, ← c.share_of-sum.ensures.value) at c.loop-k.invariant.value in
    let sign = rw c.loop-k.sum-is at c.loop-k.invariant.sign in
    let size = rw c.loop-k.sum-is at c.loop-k.invariant.size in
    rw (c.loop-k.sum-is, read_wide c.share_of-sum.result c.share_of-sum.type_inv, to_z-of_z w128 (c.loop-k.sum +ℤ c.share_of-sum.result) fits)
    (record {
      value = sum_assoc c.loop-k.sum c.share_of-sum.result _ ∙ before;
      sign = omega (arith, ints);
      size = omega (arith, ints);
    })

pub returns-clause-value : goal.returns-clause-value
returns-clause-value c =
    let rest = shares-end c.args.i c.args.normal c.args.point c.args.lighting.now.lights c.loop-k.k (omega arith) in
    let value = rw rest at c.loop-k.invariant.value in
    rw c.loop-k.sum-is (omega (arith, ints))

pub returns-clause-size : goal.returns-clause-size
returns-clause-size c =
    let sign = rw c.loop-k.sum-is at c.loop-k.invariant.sign in
    let size = rw c.loop-k.sum-is at c.loop-k.invariant.size in
    rw c.loop-k.sum-is (between c.loop-k.sum (2 ^ 57) sign (omega arith))
