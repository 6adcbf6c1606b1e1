-- Laws of the picture: how hits may be grouped, what may be left out, and how tiles' rows make a picture's row.
use Rattle.std.proofs.Common.{◌≡◌, ℕ, ◌-◌, List, [], ◌∷◌, ◌++◌, fold, Option, Some, None, ℤ, pos, ◌+ℤ◌, ◌*ℤ◌, arith, refl, ap, sym, ◌∙◌}
use Rattle.std.proofs.lemmas.Int.{ints}
use Rattle.std.specs.List.{cons_option}
use Rattle.std.specs.Int.{int_div_euclid}
use Rattle.fx_math.specs.declared.scene.Lighting.{Lighting}
use Rattle.fx_math.specs.declared.scene.Place.{Place}
use Rattle.fx_math.specs.declared.scene.Shape.{Shape}
use Rattle.fx_math.specs.declared.vectors.Ray.{Ray}
use Rattle.picture_model.proofs.HitOrder.{nearest_of-append}
use Rattle.picture_model.specs.declared.records.Blend.{Blend}
use Rattle.picture_model.specs.declared.records.HitRow.{HitRow}
use Rattle.fx_math.specs.declared.scene.Primitive.{Primitive}
use Rattle.picture_model.specs.Depths.{depth}
use Rattle.picture_model.specs.Hits.{all_hits, hit_with, nearer, nearest, nearest_of}
use Rattle.picture_model.specs.Shading.{blend_hit, blended, component, finish_blend, placed, radiance, shown, weight}

-- ---- hits
cons_option-append : {X : Type 0} (o : Option X) (xs ys : List X) → cons_option o xs ++ ys ≡ cons_option o (xs ++ ys)
cons_option-append None xs ys = refl
cons_option-append (Some x) xs ys = refl

pub all_hits-append : (ray : Ray) (xs ys : List (Place × Shape)) → all_hits ray (xs ++ ys) ≡ all_hits ray xs ++ all_hits ray ys
all_hits-append ray [] ys = refl
all_hits-append ray (x ∷ xs) ys = ap (cons_option (hit_with ray x)) (all_hits-append ray xs ys) ∙ sym (cons_option-append (hit_with ray x) (all_hits ray xs) (all_hits ray ys))

-- the nearest of two parts is the nearer of the nearest of each
pub nearest-append : (ray : Ray) (xs ys : List (Place × Shape)) → nearest ray (xs ++ ys) ≡ nearer (nearest ray xs) (nearest ray ys)
unfolding nearest
nearest-append ray xs ys = ap nearest_of (all_hits-append ray xs ys) ∙ nearest_of-append (all_hits ray xs) (all_hits ray ys)

pub placed-append : (xs ys : List Primitive) → placed (xs ++ ys) ≡ placed xs ++ placed ys
placed-append [] ys = refl
placed-append (x ∷ xs) ys = ap (λ ps. (x.place, x.shape) ∷ ps) (placed-append xs ys)

pub nearest-parts : (ray : Ray) (xs ys : List Primitive) → nearest ray (placed (xs ++ ys)) ≡ nearer (nearest ray (placed xs)) (nearest ray (placed ys))
nearest-parts ray xs ys = ap (nearest ray) (placed-append xs ys) ∙ nearest-append ray (placed xs) (placed ys)

-- a primitive that the ray misses may be left out
nearest-missed : (ray : Ray) (p : Primitive) (ys : List Primitive) → depth ray p.shape ≡ None → nearest ray (placed (p ∷ ys)) ≡ nearest ray (placed ys)
unfolding nearest
nearest-missed ray p ys h = rw h refl

pub nearest-without : (ray : Ray) (xs : List Primitive) (p : Primitive) (ys : List Primitive) → depth ray p.shape ≡ None →
    nearest ray (placed (xs ++ p ∷ ys)) ≡ nearest ray (placed (xs ++ ys))
nearest-without ray xs p ys h =
    nearest-parts ray xs (p ∷ ys) ∙ ap (nearer (nearest ray (placed xs))) (nearest-missed ray p ys h) ∙ sym (nearest-parts ray xs ys)

-- ---- a blend that nothing shows behind
blended_spent : (s r : ℤ) → s +ℤ int_div_euclid (r *ℤ pos 0) (pos 65536) ≡ s
blended_spent s r = let none : r *ℤ pos 0 ≡ pos 0 = omega (arith, ints) in rw none (omega (arith, ints))

weight-spent : (b : Blend) (row : HitRow) → b.rest ≡ 0 → weight b.rest row.opacity ≡ 0
unfolding weight
weight-spent b row h = rw h (omega arith)

blended-spent : (i : ℕ) (lighting : Lighting) (ray : Ray) (b : Blend) (row : HitRow) → b.rest ≡ 0 → blended i lighting ray b row ≡ component b.sum i
unfolding blended
blended-spent i lighting ray b row h = rw (weight-spent b row h) (blended_spent (component b.sum i) (radiance i lighting ray row))

rest-spent : (lighting : Lighting) (ray : Ray) (b : Blend) (row : HitRow) → b.rest ≡ 0 → (blend_hit lighting ray b row).rest ≡ 0
unfolding blend_hit
rest-spent lighting ray b row h = rw h (omega arith)

one_spent : (lighting : Lighting) (ray : Ray) (b : Blend) (row : HitRow) → b.rest ≡ 0 → finish_blend lighting (blend_hit lighting ray b row) ≡ finish_blend lighting b
unfolding blend_hit finish_blend shown
one_spent lighting ray b row h =
    let none = weight-spent b row h in
    let same : b.rest - weight b.rest row.opacity ≡ b.rest = rw none (omega arith) in
    rw (blended-spent 0 lighting ray b row h, blended-spent 1 lighting ray b row h, blended-spent 2 lighting ray b row h, same) refl

pub finish_blend-spent : (lighting : Lighting) (ray : Ray) (rows : List HitRow) (b : Blend) → b.rest ≡ 0 →
    finish_blend lighting (fold (blend_hit lighting ray) b rows) ≡ finish_blend lighting b
finish_blend-spent lighting ray [] b h = refl
finish_blend-spent lighting ray (row ∷ rows) b h =
    finish_blend-spent lighting ray rows (blend_hit lighting ray b row) (rest-spent lighting ray b row h) ∙ one_spent lighting ray b row h
