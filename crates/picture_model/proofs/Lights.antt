-- The light of some lamps, lamp by lamp.
use Rattle.std.proofs.Common.{◌≡◌, ℕ, zero, suc, ◌+◌, ◌≤◌, List, [], ◌∷◌, Some, drop, length, pos, ◌+ℤ◌, refl, add-one}
use Rattle.std.proofs.lemmas.List.{drop_all}
use Rattle.std.specs.List.{slice_get}
use Rattle.fx_math.specs.declared.scene.LightRow.{LightRow}
use Rattle.fx_math.specs.declared.vectors.Vec3.{Vec3}
use Rattle.picture_model.specs.Shading.{share_of, shares}

shares-suc : (i : ℕ) (normal point : Vec3) (lights : List LightRow) (k : ℕ) (light : LightRow) → slice_get lights k ≡ Some light →
    shares i normal point (drop k lights) ≡ share_of i normal point light +ℤ shares i normal point (drop (suc k) lights)
shares-suc i normal point [] k light h = cc
shares-suc i normal point (l ∷ ls) zero light h = let e : l ≡ light = cc in rw e refl
shares-suc i normal point (l ∷ ls) (suc k) light h = shares-suc i normal point ls k light h

-- one more lamp
pub shares-step : (i : ℕ) (normal point : Vec3) (lights : List LightRow) (k : ℕ) (light : LightRow) → slice_get lights k ≡ Some light →
    shares i normal point (drop k lights) ≡ share_of i normal point light +ℤ shares i normal point (drop (k + 1) lights)
shares-step i normal point lights k light h = rw add-one (shares-suc i normal point lights k light h)

pub shares-end : (i : ℕ) (normal point : Vec3) (lights : List LightRow) (k : ℕ) → length lights ≤ k → shares i normal point (drop k lights) ≡ pos 0
shares-end i normal point lights k h = rw (drop_all k lights h) refl
