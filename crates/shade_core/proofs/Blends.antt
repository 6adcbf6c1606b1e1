-- The light gathered with one more hit, as the code sums it, and how large it is.
use Rattle.std.proofs.Common.{◌≡◌, ℕ, ◌+◌, ◌-◌, ◌*◌, ◌/◌, ◌^◌, ◌≤◌, ℤ, pos, ◌+ℤ◌, unsigned_abs, [], ◌∷◌, arith, refl}
use Rattle.std.proofs.lemmas.Int.{ints}
use Rattle.fx_math.specs.declared.scene.Lighting.{Lighting}
use Rattle.fx_math.specs.declared.vectors.Ray.{Ray}
use Rattle.fx_math.specs.declared.vectors.Vec3.{Vec3}
use Rattle.picture_model.proofs.Nearness.{unblended-within}
use Rattle.picture_model.specs.declared.records.Blend.{Blend}
use Rattle.picture_model.specs.declared.records.HitRow.{HitRow}
use Rattle.picture_model.specs.Limits.{IsBetween, IsBlendWithin, IsSumWithin}
use Rattle.shade_core.specs.Blends.{IsBlendUpTo}
use Rattle.picture_model.specs.Shading.{blended, component, facing, incoming, normal_of, point_at, radiance, shown, unblended, weight}

pub blended-is : (i : ℕ) (lighting : Lighting) (ray : Ray) (b : Blend) (row : HitRow) (point normal : Vec3) (color light taken : ℕ) (z : ℤ) →
    point ≡ point_at ray row.depth → normal ≡ facing ray (normal_of row.shape point) → pos light ≡ incoming i lighting normal point → pos color ≡ component row.color i →
    taken ≡ weight b.rest row.opacity → z ≡ pos (color * light / 65536 * taken / 65536) → component b.sum i +ℤ z ≡ blended i lighting ray b row
unfolding blended radiance
blended-is i lighting ray b row point normal color light taken z at side lit coloured share back =
    let shining = rw (side, at) at lit in
    rw (back, ← coloured, ← shining, ← share) refl

pub shown-is : (i : ℕ) (lighting : Lighting) (b : Blend) (color : ℕ) (z : ℤ) → pos color ≡ component lighting.background i → z ≡ pos (color * b.rest / 65536) →
    component b.sum i +ℤ z ≡ shown i lighting b
unfolding shown
shown-is i lighting b color z coloured back = rw (back, ← coloured) refl

-- ---- sizes
pub sum-between : (sum z : ℤ) (n most more : ℕ) → IsBetween 0 most sum → z ≡ pos n → unsigned_abs z ≤ more → IsBetween 0 (most + more) (sum +ℤ z)
sum-between sum z n most more within e h = record { from = omega (arith, ints, within.from); to = omega (arith, ints, within.to) }

pub sum-within : (sum z : ℤ) (n rest taken : ℕ) → IsSumWithin sum rest → z ≡ pos n → unsigned_abs z * 65536 ≤ 2 ^ 72 * taken → taken ≤ rest → IsSumWithin (sum +ℤ z) (rest - taken)
sum-within sum z n rest taken within e h l = record { sign = omega (arith, ints, within.sign); size = omega (arith, ints, within.sign, within.size) }

pub wider : (z : ℤ) (m n : ℕ) → IsBetween 0 m z → m ≤ n → IsBetween 0 n z
wider z m n within h = record { from = within.from; to = omega (arith, ints, within.to) }

-- a blend of hits within the limits has room for one more
pub within_room : (b : Blend) → IsBlendWithin b → IsBlendUpTo (2 ^ 100) b
within_room b within = record {
  red = record { from = within.red.sign; to = omega (arith, ints, within.red.sign, within.red.size) };
  green = record { from = within.green.sign; to = omega (arith, ints, within.green.sign, within.green.size) };
  blue = record { from = within.blue.sign; to = omega (arith, ints, within.blue.sign, within.blue.size) };
  rest = within.rest;
}

pub within_shown : (b : Blend) → IsBlendWithin b → IsBlendUpTo (2 ^ 101) b
within_shown b within =
    let room = within_room b within in
    record {
      red = wider _ (2 ^ 100) (2 ^ 101) room.red (omega arith);
      green = wider _ (2 ^ 100) (2 ^ 101) room.green (omega arith);
      blue = wider _ (2 ^ 100) (2 ^ 101) room.blue (omega arith);
      rest = room.rest;
    }

-- so has a blend of none
pub none_within : IsBlendWithin (record { sum = pos 0 ∷ pos 0 ∷ pos 0 ∷ []; rest = 65536 })
unfolding unblended
none_within = unblended-within
