use Rattle.std.proofs.Common.{◌≡◌, ◌*ℤ◌, ◌∙◌, rules}
use Rattle.std.proofs.lemmas.Int.{to_z-of_z}
use Rattle.fx_math.specs.Vec3.{dot}
use Rattle.fx_math.proofs.Kept.{dot_fits, read_product}
use Rattle.fx_math.proofs.Sizes.{abs-dot}
use Rattle.fx_math.proofs.vectors.dot.Goals as goal

pub overflow_add-result : goal.overflow_add-result
overflow_add-result c =
    let x : c.wide_product.result ≡ c.args.a.x *ℤ c.args.b.x = c.wide_product.ensures ∙ read_product c.args.a.x c.args.b.x (search rules) (search rules) in
    let y : c.wide_product-2.result ≡ c.args.a.y *ℤ c.args.b.y = c.wide_product-2.ensures ∙ read_product c.args.a.y c.args.b.y (search rules) (search rules) in
    let fits = dot_fits c.args.a c.args.b c.requires.first c.requires.second in
    rw (x, y) (simp (to_z-of_z, fits.first, fits.second) fits.two)

pub overflow_add-result-2 : goal.overflow_add-result-2
overflow_add-result-2 c =
    let x : c.wide_product.result ≡ c.args.a.x *ℤ c.args.b.x = c.wide_product.ensures ∙ read_product c.args.a.x c.args.b.x (search rules) (search rules) in
    let y : c.wide_product-2.result ≡ c.args.a.y *ℤ c.args.b.y = c.wide_product-2.ensures ∙ read_product c.args.a.y c.args.b.y (search rules) (search rules) in
    let z : c.wide_product-3.result ≡ c.args.a.z *ℤ c.args.b.z = c.wide_product-3.ensures ∙ read_product c.args.a.z c.args.b.z (search rules) (search rules) in
    let fits = dot_fits c.args.a c.args.b c.requires.first c.requires.second in
    rw (x, y, z) (simp (to_z-of_z, fits.first, fits.second, fits.third, fits.two) fits.all)

pub returns-clause-value : goal.returns-clause-value
unfolding dot
returns-clause-value c =
    let x : c.wide_product.result ≡ c.args.a.x *ℤ c.args.b.x = c.wide_product.ensures ∙ read_product c.args.a.x c.args.b.x (search rules) (search rules) in
    let y : c.wide_product-2.result ≡ c.args.a.y *ℤ c.args.b.y = c.wide_product-2.ensures ∙ read_product c.args.a.y c.args.b.y (search rules) (search rules) in
    let z : c.wide_product-3.result ≡ c.args.a.z *ℤ c.args.b.z = c.wide_product-3.ensures ∙ read_product c.args.a.z c.args.b.z (search rules) (search rules) in
    let fits = dot_fits c.args.a c.args.b c.requires.first c.requires.second in
    rw (x, y, z) (simp (to_z-of_z, fits.first, fits.second, fits.third, fits.two, fits.all))

pub returns-clause-size : goal.returns-clause-size
returns-clause-size c = rw (returns-clause-value c) (abs-dot c.args.a c.args.b)
