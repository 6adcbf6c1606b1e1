-- The boxes of a source's primitives, one by one.
use Rattle.std.proofs.Common.{◌≡◌, ℕ, zero, suc, ◌+◌, List, [], ◌∷◌, ◌++◌, All, Some, length, map, take, arith}
use Rattle.std.proofs.Math.Seq.{take-length}
use Rattle.std.proofs.lemmas.List.Elements.{All-map}
use Rattle.std.specs.List.{AllZip, slice_get}
use Rattle.fx_math.specs.declared.scene.Place.{Place}
use Rattle.fx_math.specs.declared.scene.Primitive.{Primitive}
use Rattle.fx_math.specs.declared.scene.Shape.{Shape}
use Rattle.box_tests.specs.declared.boxes.Box3.{Box3}
use Rattle.picture_model.specs.Limits.{IsPrimitiveWithin, IsShapeWithin}
use Rattle.picture_model.specs.Shading.{placed}
use Rattle.ray_kernel.specs.Shapes.{IsHolding}

pub shape_within : (placed : List (Place × Shape)) (i : ℕ) (s : Shape) → All (λ p. IsShapeWithin p.1) placed → slice_get (map (λ p. p.1) placed) i ≡ Some s → IsShapeWithin s
shape_within [] i s all is = absurd cc
shape_within (p ∷ ps) zero s all is = let e : p.1 ≡ s = cc in rw e at (all 0 p (omega arith))
shape_within (p ∷ ps) (suc i) s all is = shape_within ps i s (λ k d h. all (suc k) d (omega arith)) is

-- one box for each of the first i primitives
abbrev pub AreFor : List Box3 → ℕ → List (Place × Shape) → Type 0
AreFor boxes i placed = AllZip (λ b p. IsHolding b p.1) boxes (take i placed)

pub boxes_next : (boxes : List Box3) (i : ℕ) (placed : List (Place × Shape)) (b : Box3) (s : Shape) → AreFor boxes i placed → slice_get (map (λ p. p.1) placed) i ≡ Some s → IsHolding b s →
    AreFor (boxes ++ (b ∷ [])) (i + 1) placed
boxes_next boxes i [] b s held is holds = absurd cc
boxes_next [] zero (p ∷ ps) b s held is holds = let e : p.1 ≡ s = cc in (rw e holds, tt)
boxes_next [] (suc i) (p ∷ ps) b s held is holds = absurd held
boxes_next (x ∷ xs) zero (p ∷ ps) b s held is holds = absurd held
boxes_next (x ∷ xs) (suc i) (p ∷ ps) b s held is holds = let e : suc i + 1 ≡ suc (i + 1) = omega arith in rw e (held.0, boxes_next xs i ps b s held.1 is holds)

pub boxes_all : (boxes : List Box3) (i : ℕ) (placed : List (Place × Shape)) → AreFor boxes i placed → i ≡ length placed → AllZip (λ b p. IsHolding b p.1) boxes placed
boxes_all boxes i placed held is = rw (is, take-length placed) at held

-- ---- scenes
-- the shapes of primitives within the limits
pub shapes_within : (ps : List Primitive) → All IsPrimitiveWithin ps → All (λ p. IsShapeWithin p.1) (placed ps)
shapes_within ps all = All-map (λ p. IsShapeWithin p.1) (λ p. (p.place, p.shape)) ps (λ k d h. (all k d h).shape)
