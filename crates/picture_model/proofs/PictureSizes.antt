-- How many bytes a picture has.
use Rattle.std.proofs.Common.{◌≡◌, ℕ, zero, suc, ◌+◌, ◌*◌, List, length, length-append, arith, refl, ◌∙◌}
use Rattle.picture_model.specs.declared.records.Plane.{Plane}
use Rattle.picture_model.specs.declared.records.Plane.TheVariants.{Color, PrimitiveId, ObjectId, InstanceId}
use Rattle.fx_math.specs.declared.scene.Scene.{Scene}
use Rattle.picture_model.specs.Shading.{finish_blend, shade}
use Rattle.picture_model.specs.Pictures.{in_a_row, picture, pixel, pixels_in}

-- a pixel has four bytes
pub length-pixel : (scene : Scene) (plane : Plane) (x y : ℕ) → length (pixel scene plane x y) ≡ 4
unfolding pixel shade finish_blend
length-pixel scene Color x y = refl
length-pixel scene PrimitiveId x y = refl
length-pixel scene ObjectId x y = refl
length-pixel scene InstanceId x y = refl

-- lists of one length in a row
pub length-in_a_row : (f : ℕ → List ℕ) (m : ℕ) → ((i : ℕ) → length (f i) ≡ m) → (i n : ℕ) → length (in_a_row f i n) ≡ n * m
length-in_a_row f m each i zero = omega arith
length-in_a_row f m each i (suc n) =
    let first = each i in
    let rest = length-in_a_row f m each (i + 1) n in
    length-append (f i) (in_a_row f (i + 1) n) ∙ omega (arith, first, rest)

-- a picture has four bytes a pixel
pub length-picture : (scene : Scene) (plane : Plane) → length (picture scene plane) ≡ 4 * scene.width * scene.height
unfolding picture pixels_in
length-picture scene plane =
    length-in_a_row _ (scene.width * 4) (λ y. length-in_a_row _ 4 (λ x. length-pixel scene plane x y) 0 scene.width) 0 scene.height ∙ omega arith
