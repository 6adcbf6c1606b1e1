use Rattle.std.proofs.Common.{ℤ, pos, ◌*ℤ◌, ◌∙◌, ap, rules, w32}
use Rattle.std.proofs.lemmas.Int.{to_z-of_z}
use Rattle.std.specs.Int.{int_div_euclid}
use Rattle.fx_math.specs.declared.transforms.Mat34.{Mat34}
use Rattle.fx_math.specs.Mat34.{axis_length, scaled_radius}
use Rattle.fx_math.proofs.Kept.{kept, read_product}
use Rattle.fx_math.proofs.placings.Placing.radius.Goals as goal
use mir.Syntax.{w128}

pub returns : goal.returns
unfolding scaled_radius
returns c =
    let product = to_z-of_z w128 c.wide_product.result (search rules) ∙ c.wide_product.ensures ∙ read_product c.from.result c.self.inside.scale (search rules) (search rules) in
    let scale = c.self.invariant.is ∙ ap (λ (m : Mat34). pos (axis_length m)) c.self.view_is in
    let radius = c.from.ensures ∙ to_z-of_z w32 c.args.radius c.ranges.radius in
    let value = product ∙ ap (λ (a : ℤ). c.from.result *ℤ a) scale ∙ ap (λ (r : ℤ). r *ℤ pos (axis_length c.args.self.now)) radius in
    kept c.units.result _ (search rules) (c.units.ensures ∙ ap (λ (z : ℤ). int_div_euclid z (pos 65536)) value)
