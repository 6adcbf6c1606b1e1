use Rattle.std.proofs.Common.{ℤ, pos, ◌*◌, ◌^◌, ◌≤◌, ◌*ℤ◌, ◌∙◌, ap, arith, rules, unsigned_abs}
use Rattle.std.proofs.lemmas.Int.{ints, to_z-of_z}
use Rattle.std.specs.Int.{int_div_euclid}
use Rattle.fx_math.specs.Mat34.{scaled_radius}
use Rattle.fx_math.proofs.Kept.{kept, read_product}
use Rattle.fx_math.proofs.Sizes.{abs-mul_le}
use Rattle.fx_math.proofs.transforms.scaled_radius.Goals as goal
use mir.Syntax.{w128}

pub units-requires : goal.units-requires
units-requires c =
    let product = c.wide_product.ensures ∙ read_product c.args.radius c.axis_length.result c.ranges.radius (search rules) in
    let radius : unsigned_abs c.args.radius ≤ 2 ^ 31 = omega (arith, ints) in
    let axis : unsigned_abs c.axis_length.result ≤ 2 ^ 32 = omega arith in
    let size : unsigned_abs (c.args.radius *ℤ c.axis_length.result) ≤ 2 ^ 31 * 2 ^ 32 = abs-mul_le c.args.radius c.axis_length.result _ _ radius axis in
    rw (to_z-of_z w128 c.wide_product.result (search rules), product) (omega arith)

pub returns : goal.returns
unfolding scaled_radius
returns c =
    let product = to_z-of_z w128 c.wide_product.result (search rules) ∙ c.wide_product.ensures ∙ read_product c.args.radius c.axis_length.result c.ranges.radius (search rules) in
    let value = product ∙ ap (λ (a : ℤ). c.args.radius *ℤ a) c.axis_length.ensures.value in
    kept c.units.result _ (search rules) (c.units.ensures ∙ ap (λ (z : ℤ). int_div_euclid z (pos 65536)) value)
