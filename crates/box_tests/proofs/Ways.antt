-- How far a ray has gone where it has gone a way on one axis.
use Rattle.std.proofs.Common.{◌≡◌, ℕ, ◌*◌, ◌/◌, ◌^◌, ◌<◌, ◌≤◌, ℤ, pos, neg_ℤ, ◌+ℤ◌, ◌-ℤ◌, ◌*ℤ◌, ◌≤ℤ◌, ◌<ℤ◌, unsigned_abs, arith}
use Rattle.std.proofs.lemmas.Int.{ints}
use Rattle.std.proofs.Math.Nat.{le_of_mul-le-mul_right, le-div_iff_mul-le, div-mul-le_self, mul-le-mul_left, mul-le-mul_right}
use Rattle.box_tests.specs.Boxes.{IsBetween}
use Rattle.fx_math.proofs.Rings.{Is-add, Is-mul, Is-natural, Is-neg, Is-parts, same_by}

-- a way that was gone by n / m of the ray's way, times the lower inverse of the direction d, is no later
pub entry_below : (a d n m r : ℕ) → 0 < m → r * d ≤ 2 ^ 48 → a * m ≤ n * d → a * r / 2 ^ 32 ≤ 65536 * n / m
entry_below a d n m r some inverse gone =
    let whole = mul-le-mul_right m (div-mul-le_self (a * r) (2 ^ 32)) in
    let way = mul-le-mul_right r gone in
    let pace = mul-le-mul_left n inverse in
    let scaled : (a * r / 2 ^ 32 * m) * 2 ^ 32 ≤ (65536 * n) * 2 ^ 32 = omega (arith, whole, way, pace) in
    (le-div_iff_mul-le some).1 (le_of_mul-le-mul_right scaled (omega arith))

-- a way that is not passed by n / m of the ray's way, times the upper inverse, is no earlier
pub exit_above : (a d n m r : ℕ) → 0 < m → 2 ^ 48 ≤ r * d → n * d ≤ a * m → 65536 * n / m ≤ a * r / 2 ^ 32
exit_above a d n m r some inverse gone =
    let whole = mul-le-mul_right (2 ^ 32) (div-mul-le_self (65536 * n) m) in
    let pace = mul-le-mul_left n inverse in
    let way = mul-le-mul_right r gone in
    let scaled : (65536 * n / m * 2 ^ 32) * m ≤ (a * r) * m = omega (arith, whole, way, pace) in
    (le-div_iff_mul-le (omega arith)).1 (le_of_mul-le-mul_right scaled some)

-- ---- distances
-- a sum, m times
pub spread : (o : ℤ) (a m : ℕ) → (o +ℤ pos a) *ℤ pos m ≡ o *ℤ pos m +ℤ pos (a * m)
spread o a m =
    same_by _ _ _ _ _ _
    (Is-mul (o +ℤ pos a) (pos m) _ _ _ _ (Is-add o (pos a) _ _ _ _ (Is-parts o) (Is-natural a)) (Is-natural m))
    (Is-add (o *ℤ pos m) (pos (a * m)) _ _ _ _ (Is-mul o (pos m) _ _ _ _ (Is-parts o) (Is-natural m)) (Is-natural (a * m)))
    (omega arith)

-- n steps of d down
backward : (n d : ℕ) → pos n *ℤ neg_ℤ (pos d) ≡ neg_ℤ (pos (n * d))
backward n d =
    same_by _ _ _ _ _ _
    (Is-mul (pos n) (neg_ℤ (pos d)) _ _ _ _ (Is-natural n) (Is-neg (pos d) _ _ (Is-natural d)))
    (Is-neg (pos (n * d)) _ _ (Is-natural (n * d)))
    (omega arith)

forward : (n d : ℕ) → pos n *ℤ pos d ≡ pos (n * d)
forward n d =
    same_by _ _ _ _ _ _
    (Is-mul (pos n) (pos d) _ _ _ _ (Is-natural n) (Is-natural d))
    (Is-natural (n * d))
    (omega arith)

sums_up : (x : ℤ) (a b : ℕ) → (x +ℤ pos a) ≤ℤ (x +ℤ pos b) → a ≤ b
sums_up x a b h = omega (arith, ints)

-- the ray goes up, and the plane is the way a above its origin
pub up_from : (o plane : ℤ) (a d n m : ℕ) → plane ≡ o +ℤ pos a → (plane *ℤ pos m) ≤ℤ (o *ℤ pos m +ℤ pos n *ℤ pos d) → a * m ≤ n * d
up_from o plane a d n m at h = sums_up _ _ _ (rw (at, spread o a m, forward n d) at h)

pub up_to : (o plane : ℤ) (a d n m : ℕ) → plane ≡ o +ℤ pos a → (o *ℤ pos m +ℤ pos n *ℤ pos d) ≤ℤ (plane *ℤ pos m) → n * d ≤ a * m
up_to o plane a d n m at h = sums_up _ _ _ (rw (at, spread o a m, forward n d) at h)

sums_from : (x : ℤ) (a b : ℕ) → (x +ℤ pos a +ℤ neg_ℤ (pos b)) ≤ℤ x → a ≤ b
sums_from x a b h = omega (arith, ints)

sums_to : (x : ℤ) (a b : ℕ) → x ≤ℤ (x +ℤ pos a +ℤ neg_ℤ (pos b)) → b ≤ a
sums_to x a b h = omega (arith, ints)

-- the ray goes down, and its origin is the way a above the plane
pub down_from : (o plane : ℤ) (a d n m : ℕ) → o ≡ plane +ℤ pos a → (o *ℤ pos m +ℤ pos n *ℤ neg_ℤ (pos d)) ≤ℤ (plane *ℤ pos m) → a * m ≤ n * d
down_from o plane a d n m at h = sums_from _ _ _ (rw (at, spread plane a m, backward n d) at h)

pub down_to : (o plane : ℤ) (a d n m : ℕ) → o ≡ plane +ℤ pos a → (plane *ℤ pos m) ≤ℤ (o *ℤ pos m +ℤ pos n *ℤ neg_ℤ (pos d)) → n * d ≤ a * m
down_to o plane a d n m at h = sums_to _ _ _ (rw (at, spread plane a m, backward n d) at h)

-- ---- what lies behind
gap : (x y : ℤ) → x <ℤ y → (a : ℕ) × (0 < a) × (y ≡ x +ℤ pos a)
gap x y h = (unsigned_abs (y -ℤ x), omega (arith, ints), omega (arith, ints))

none_below : (a m : ℕ) → 0 < a → 0 < m → a * m ≤ 0 → ⊥
none_below a m some more h = let e = mul-le-mul_right m some in omega arith

-- a ray that stands still on the axis below or above the slab
pub still_below : (low high o : ℤ) → o <ℤ low → (n m : ℕ) → 0 < m → IsBetween low high o (pos 0) n m → ⊥
still_below low high o h n m some at = let g = gap o low h in
    none_below g.0 m g.1 some (let e = up_from o low g.0 0 n m g.2 at.from in omega arith)

pub still_above : (low high o : ℤ) → high <ℤ o → (n m : ℕ) → 0 < m → IsBetween low high o (pos 0) n m → ⊥
still_above low high o h n m some at = let g = gap high o h in
    none_below g.0 m g.1 some (let e = down_from o high g.0 0 n m g.2 at.to in omega arith)

-- a ray that goes away from the slab
pub up_behind : (low high o : ℤ) (d : ℕ) → high <ℤ o → (n m : ℕ) → 0 < m → IsBetween low high o (pos d) n m → ⊥
up_behind low high o d h n m some at = let g = gap high o h in
    none_below g.0 m g.1 some (sums_behind _ _ _ (rw (g.2, spread high g.0 m, forward n d) at at.to))
  where
    sums_behind : (x : ℤ) (a b : ℕ) → (x +ℤ pos a +ℤ pos b) ≤ℤ x → a ≤ 0
    sums_behind x a b h = omega (arith, ints)

pub down_behind : (low high o : ℤ) (d : ℕ) → o <ℤ low → (n m : ℕ) → 0 < m → IsBetween low high o (neg_ℤ (pos d)) n m → ⊥
down_behind low high o d h n m some at = let g = gap o low h in
    none_below g.0 m g.1 some (sums_ahead _ _ _ (rw (g.2, spread o g.0 m, backward n d) at at.from))
  where
    sums_ahead : (x : ℤ) (a b : ℕ) → (x +ℤ pos a) ≤ℤ (x +ℤ neg_ℤ (pos b)) → a ≤ 0
    sums_ahead x a b h = omega (arith, ints)
