-- The light of one lamp in naturals, as the code counts it.
use Rattle.std.proofs.Common.{◌≡◌, ℕ, ◌+◌, ◌-◌, ◌*◌, ◌/◌, ◌^◌, ◌<◌, ◌≤◌, ◌==◌, min, List, length, drop, Some, ℤ, ◌+ℤ◌, pos, negsuc, ◌≤ℤ◌, int_le, unsigned_abs, true, false, arith, refl, sym, ◌∙◌}
use Rattle.std.proofs.Math.Nat.{div-lt_iff_lt-mul}
use Rattle.std.proofs.lemmas.Bool.Decides.{nat_tests}
use Rattle.std.proofs.lemmas.Int.{ints}
use Rattle.std.specs.Int.{int_div_euclid}
use Rattle.fx_math.specs.Vec3.{dot}
use Rattle.fx_math.specs.declared.scene.LightRow.{LightRow}
use Rattle.fx_math.specs.declared.vectors.Vec3.{Vec3}
use Rattle.picture_model.proofs.Lights.{shares-end, shares-step}
use Rattle.std.specs.List.{slice_get}
use Rattle.picture_model.specs.Shading.{color_of, component, cosine, faded, irradiance_at, share_of, shares, towards}

-- ---- the cosine
pub cosine-apart : (normal direction : Vec3) → int_le (dot normal direction) (pos 0) ≡ true → pos 0 ≡ cosine normal direction
unfolding cosine
cosine-apart normal direction h = rw h refl

shifted : (z : ℤ) → int_le z (pos 0) ≡ false → pos (unsigned_abs z / 65536) ≡ int_div_euclid z (pos 65536)
shifted (pos n) h = refl
shifted (negsuc n) h = absurd (cc)

pub cosine-along : (normal direction : Vec3) → int_le (dot normal direction) (pos 0) ≡ false → pos (unsigned_abs (dot normal direction) / 65536) ≡ cosine normal direction
unfolding cosine
cosine-along normal direction h = rw h (shifted (dot normal direction) h)

-- ---- a point light
none_left : (b s : ℕ) → b < s → b / s ≡ 0
none_left b s h =
    let some : 0 < s = omega arith in
    let within : b < 1 * s = omega arith in
    let below = (div-lt_iff_lt-mul some).1 within in
    omega arith

pub faded-at : (intensity : ℤ) (way : Vec3) → unsigned_abs (dot way way) ≡ 0 → pos 0 ≡ faded intensity way
unfolding faded
faded-at intensity way h = rw h refl

pub faded-away : (intensity : ℤ) (way : Vec3) → unsigned_abs intensity * 2 ^ 32 < unsigned_abs (dot way way) → pos 0 ≡ faded intensity way
unfolding faded
faded-away intensity way h =
    let some : (unsigned_abs (dot way way) == 0) ≡ false = grind (arith, nat_tests) in
    rw (some, none_left (unsigned_abs intensity * 2 ^ 32) (unsigned_abs (dot way way)) h) refl

pub faded-near : (intensity : ℤ) (way : Vec3) → 0 < unsigned_abs (dot way way) → pos (min (unsigned_abs intensity * 2 ^ 32 / unsigned_abs (dot way way)) (2 ^ 31 - 1)) ≡ faded intensity way
unfolding faded
faded-near intensity way h =
    let some : (unsigned_abs (dot way way) == 0) ≡ false = grind (arith, nat_tests) in
    rw some refl

-- ---- numbers that are not negative
pub natural : (z : ℤ) → pos 0 ≤ℤ z → pos (unsigned_abs z) ≡ z
natural z h = omega (arith, ints)

-- ---- the sum over the lamps
pub share-is : (i : ℕ) (normal point : Vec3) (light : LightRow) (color strength along share sum : ℕ) → pos color ≡ component (color_of light) i →
    pos strength ≡ irradiance_at light point → pos along ≡ cosine normal (towards light point) → share ≡ color * strength / 65536 * along / 65536 →
    pos (sum + share) ≡ pos sum +ℤ share_of i normal point light
unfolding share_of
share-is i normal point light color strength along share sum c s a e = rw (e, ← c, ← s, ← a) refl

sum_assoc : (a b d : ℤ) → (a +ℤ b) +ℤ d ≡ a +ℤ (b +ℤ d)
sum_assoc a b d = omega (arith, ints)

pub lamp-step : (i : ℕ) (normal point : Vec3) (lights : List LightRow) (k : ℕ) (light : LightRow) (before after whole : ℤ) → slice_get lights k ≡ Some light →
    after ≡ before +ℤ share_of i normal point light → before +ℤ shares i normal point (drop k lights) ≡ whole → after +ℤ shares i normal point (drop (k + 1) lights) ≡ whole
lamp-step i normal point lights k light before after whole h e rest =
    let step = shares-step i normal point lights k light h in
    rw e (sum_assoc before (share_of i normal point light) _ ∙ rw (← step) rest)

pub lamps-end : (i : ℕ) (normal point : Vec3) (lights : List LightRow) (k : ℕ) (sum whole : ℤ) → length lights ≤ k →
    sum +ℤ shares i normal point (drop k lights) ≡ whole → sum ≡ whole
lamps-end i normal point lights k sum whole h e = sym (nothing_more sum) ∙ rw (shares-end i normal point lights k h) at e
  where
    nothing_more : (z : ℤ) → z +ℤ pos 0 ≡ z
    nothing_more z = omega (arith, ints)
