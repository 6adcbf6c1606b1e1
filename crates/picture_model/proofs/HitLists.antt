-- The hits of a ray from front to back, one by one.
use Rattle.std.proofs.Common.{◌≡◌, ℕ, zero, suc, ◌+◌, ◌-◌, ◌<◌, ◌≤◌, List, [], ◌∷◌, ◌++◌, Option, Some, None, length, arith, refl, ap, sym}
use Rattle.std.proofs.lemmas.List.{append-nil}
use Rattle.fx_math.specs.declared.vectors.Ray.{Ray}
use Rattle.fx_math.specs.declared.scene.Place.{Place}
use Rattle.fx_math.specs.declared.scene.Shape.{Shape}
use Rattle.picture_model.specs.declared.records.Hit.{Hit}
use Rattle.fx_math.specs.declared.scene.Primitive.{Primitive}
use Rattle.picture_model.specs.Hits.{hit_after, hits, hits_from, nearest}
use Rattle.picture_model.specs.Shading.{placed}

pub hits_from-none : (ray : Ray) (ps : List (Place × Shape)) (n : ℕ) → hits_from ray ps n None ≡ []
hits_from-none ray ps zero = refl
hits_from-none ray ps (suc n) = refl

pub hits_from-some : (ray : Ray) (ps : List (Place × Shape)) (end i : ℕ) (h : Hit) → i < end →
    hits_from ray ps (end - i) (Some h) ≡ h ∷ hits_from ray ps (end - (i + 1)) (hit_after ray ps h)
hits_from-some ray ps end i h l = let e : end - i ≡ suc (end - (i + 1)) = omega arith in rw e refl

pub hits_from-end : (ray : Ray) (ps : List (Place × Shape)) (end i : ℕ) (next : Option Hit) → end ≤ i → hits_from ray ps (end - i) next ≡ []
hits_from-end ray ps end i next l = let e : end - i ≡ 0 = omega arith in rw e refl

length_placed : (ps : List Primitive) → length (placed ps) ≡ length ps
length_placed [] = refl
length_placed (p ∷ ps) = ap suc (length_placed ps)

-- no hit is left out at the start: there are at most as many as primitives
pub hits_from-start : (ray : Ray) (ps : List Primitive) → hits_from ray (placed ps) (length ps - 0) (nearest ray (placed ps)) ≡ hits ray (placed ps)
unfolding hits
hits_from-start ray ps =
    let e : length (placed ps) ≡ length ps = length_placed ps in
    let none : length ps - 0 ≡ length ps = omega arith in
    rw (e, none) refl

pub without_rest : {X : Type 0} (xs ys : List X) → ys ≡ [] → xs ≡ xs ++ ys
without_rest xs ys e = rw e (sym (append-nil xs))
