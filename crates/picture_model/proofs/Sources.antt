-- A list of primitives as a source of places and shapes.
use Rattle.std.proofs.Common.{◌≡◌, ℕ, zero, suc, ◌<◌, List, [], ◌∷◌, Some, length, map, get_or, arith, refl}
use Rattle.std.specs.List.{slice_get}
use Rattle.fx_math.specs.declared.scene.Primitive.{Primitive}
use Rattle.picture_model.specs.Shading.{placed}

pub place_at : (ps : List Primitive) (i : ℕ) (d : Primitive) → i < length (placed ps) → slice_get (map (λ p. p.0) (placed ps)) i ≡ Some (get_or ps i d).place
place_at [] i d l = absurd (omega arith)
place_at (p ∷ ps) zero d l = refl
place_at (p ∷ ps) (suc i) d l = place_at ps i d (omega arith)

pub shape_at : (ps : List Primitive) (i : ℕ) (d : Primitive) → i < length (placed ps) → slice_get (map (λ p. p.1) (placed ps)) i ≡ Some (get_or ps i d).shape
shape_at [] i d l = absurd (omega arith)
shape_at (p ∷ ps) zero d l = refl
shape_at (p ∷ ps) (suc i) d l = shape_at ps i d (omega arith)
