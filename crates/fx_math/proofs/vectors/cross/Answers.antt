use Rattle.std.proofs.Common.{arith, ◌≡◌, ◌*ℤ◌, ◌∙◌, rules}
use Rattle.std.proofs.lemmas.Int.{to_z-of_z}
use Rattle.fx_math.specs.Vec3.{cross}
use Rattle.fx_math.proofs.Kept.{cross_fits_x, cross_fits_y, cross_fits_z, product_room, read_product}
use Rattle.fx_math.proofs.Sizes.{abs_x, abs_y, abs_z, reach-cross, same_vec}
use Rattle.fx_math.proofs.vectors.cross.Goals as goal

pub product-requires : goal.product-requires
product-requires c = product_room c.args.a.y c.args.b.z _ _ (search rules) (search rules) (abs_y c.args.a) (abs_z c.args.b) (omega (arith, c.requires))

pub product-requires-2 : goal.product-requires-2
product-requires-2 c = product_room c.args.a.z c.args.b.y _ _ (search rules) (search rules) (abs_z c.args.a) (abs_y c.args.b) (omega (arith, c.requires))

pub product-requires-3 : goal.product-requires-3
product-requires-3 c = product_room c.args.a.z c.args.b.x _ _ (search rules) (search rules) (abs_z c.args.a) (abs_x c.args.b) (omega (arith, c.requires))

pub product-requires-4 : goal.product-requires-4
product-requires-4 c = product_room c.args.a.x c.args.b.z _ _ (search rules) (search rules) (abs_x c.args.a) (abs_z c.args.b) (omega (arith, c.requires))

pub product-requires-5 : goal.product-requires-5
product-requires-5 c = product_room c.args.a.x c.args.b.y _ _ (search rules) (search rules) (abs_x c.args.a) (abs_y c.args.b) (omega (arith, c.requires))

pub product-requires-6 : goal.product-requires-6
product-requires-6 c = product_room c.args.a.y c.args.b.x _ _ (search rules) (search rules) (abs_y c.args.a) (abs_x c.args.b) (omega (arith, c.requires))

pub overflow_sub-result : goal.overflow_sub-result
overflow_sub-result c =
    let p : c.product.result ≡ c.args.a.y *ℤ c.args.b.z = c.product.ensures ∙ read_product c.args.a.y c.args.b.z (search rules) (search rules) in
    let q : c.product-2.result ≡ c.args.a.z *ℤ c.args.b.y = c.product-2.ensures ∙ read_product c.args.a.z c.args.b.y (search rules) (search rules) in
    let fits = cross_fits_x c.args.a c.args.b c.requires in
    rw (p, q) (simp (to_z-of_z, fits.first, fits.second) fits.difference)

pub overflow_sub-result-2 : goal.overflow_sub-result-2
overflow_sub-result-2 c =
    let r : c.product-3.result ≡ c.args.a.z *ℤ c.args.b.x = c.product-3.ensures ∙ read_product c.args.a.z c.args.b.x (search rules) (search rules) in
    let s : c.product-4.result ≡ c.args.a.x *ℤ c.args.b.z = c.product-4.ensures ∙ read_product c.args.a.x c.args.b.z (search rules) (search rules) in
    let fits = cross_fits_y c.args.a c.args.b c.requires in
    rw (r, s) (simp (to_z-of_z, fits.first, fits.second) fits.difference)

pub overflow_sub-result-3 : goal.overflow_sub-result-3
overflow_sub-result-3 c =
    let t : c.product-5.result ≡ c.args.a.x *ℤ c.args.b.y = c.product-5.ensures ∙ read_product c.args.a.x c.args.b.y (search rules) (search rules) in
    let u : c.product-6.result ≡ c.args.a.y *ℤ c.args.b.x = c.product-6.ensures ∙ read_product c.args.a.y c.args.b.x (search rules) (search rules) in
    let fits = cross_fits_z c.args.a c.args.b c.requires in
    rw (t, u) (simp (to_z-of_z, fits.first, fits.second) fits.difference)

pub returns-clause-value : goal.returns-clause-value
unfolding cross
returns-clause-value c =
    let p : c.product.result ≡ c.args.a.y *ℤ c.args.b.z = c.product.ensures ∙ read_product c.args.a.y c.args.b.z (search rules) (search rules) in
    let q : c.product-2.result ≡ c.args.a.z *ℤ c.args.b.y = c.product-2.ensures ∙ read_product c.args.a.z c.args.b.y (search rules) (search rules) in
    let r : c.product-3.result ≡ c.args.a.z *ℤ c.args.b.x = c.product-3.ensures ∙ read_product c.args.a.z c.args.b.x (search rules) (search rules) in
    let s : c.product-4.result ≡ c.args.a.x *ℤ c.args.b.z = c.product-4.ensures ∙ read_product c.args.a.x c.args.b.z (search rules) (search rules) in
    let t : c.product-5.result ≡ c.args.a.x *ℤ c.args.b.y = c.product-5.ensures ∙ read_product c.args.a.x c.args.b.y (search rules) (search rules) in
    let u : c.product-6.result ≡ c.args.a.y *ℤ c.args.b.x = c.product-6.ensures ∙ read_product c.args.a.y c.args.b.x (search rules) (search rules) in
    let fits_x = cross_fits_x c.args.a c.args.b c.requires in
    let fits_y = cross_fits_y c.args.a c.args.b c.requires in
    let fits_z = cross_fits_z c.args.a c.args.b c.requires in
    same_vec _ _
    (rw (p, q) (simp (to_z-of_z, fits_x.first, fits_x.second, fits_x.difference)))
    (rw (r, s) (simp (to_z-of_z, fits_y.first, fits_y.second, fits_y.difference)))
    (rw (t, u) (simp (to_z-of_z, fits_z.first, fits_z.second, fits_z.difference)))

pub returns-clause-size : goal.returns-clause-size
returns-clause-size c = rw (returns-clause-value c) (reach-cross c.args.a c.args.b)
