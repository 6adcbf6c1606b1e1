use Rattle.std.proofs.Common.{◌≡◌, ◌*ℤ◌, ◌∙◌, rules}
use Rattle.std.proofs.Math.Nat.{le_refl}
use Rattle.fx_math.specs.Vec3.{times}
use Rattle.fx_math.proofs.Kept.{kept, product_room, read_product}
use Rattle.fx_math.proofs.Sizes.{abs_x, abs_y, abs_z, reach-times, same_vec}
use Rattle.fx_math.proofs.vectors.times.Goals as goal

pub product-requires : goal.product-requires
product-requires c = product_room c.args.v.x c.args.factor _ _ (search rules) c.ranges.factor (abs_x c.args.v) (le_refl _) c.requires

pub product-requires-2 : goal.product-requires-2
product-requires-2 c = product_room c.args.v.y c.args.factor _ _ (search rules) c.ranges.factor (abs_y c.args.v) (le_refl _) c.requires

pub product-requires-3 : goal.product-requires-3
product-requires-3 c = product_room c.args.v.z c.args.factor _ _ (search rules) c.ranges.factor (abs_z c.args.v) (le_refl _) c.requires

pub returns-clause-value : goal.returns-clause-value
unfolding times
returns-clause-value c =
    let x : c.product.result ≡ c.args.v.x *ℤ c.args.factor = c.product.ensures ∙ read_product c.args.v.x c.args.factor (search rules) c.ranges.factor in
    let y : c.product-2.result ≡ c.args.v.y *ℤ c.args.factor = c.product-2.ensures ∙ read_product c.args.v.y c.args.factor (search rules) c.ranges.factor in
    let z : c.product-3.result ≡ c.args.v.z *ℤ c.args.factor = c.product-3.ensures ∙ read_product c.args.v.z c.args.factor (search rules) c.ranges.factor in
    same_vec _ _ (kept c.product.result _ (search rules) x) (kept c.product-2.result _ (search rules) y) (kept c.product-3.result _ (search rules) z)

pub returns-clause-size : goal.returns-clause-size
returns-clause-size c = rw (returns-clause-value c) (reach-times c.args.v c.args.factor)
