-- Numbers as the code reads them, and how large quotients and products are.
use Rattle.std.proofs.Common.{◌≡◌, ℕ, suc, ◌+◌, ◌*◌, ◌/◌, ◌^◌, ◌<◌, ◌≤◌, ℤ, pos, negsuc, ◌+ℤ◌, ◌*ℤ◌, ◌≤ℤ◌, FitsSigned, to_z, of_z, unsigned_abs, arith}
use Rattle.std.proofs.lemmas.Int.{ints, to_z-of_z, to_z_pos}
use Rattle.std.proofs.lemmas.Nat.{le-div}
use Rattle.std.proofs.Math.Nat.{mul-le-mul, div-mul-le_self, le_of_mul-le-mul_right}
use Rattle.std.specs.Int.{int_div_euclid}
use Rattle.fx_math.proofs.Sizes.{abs-mul_le}
use lib.Signed.{mag, shr_z}
use mir.Syntax.{w32, w64, w128}
use Rattle.picture_model.specs.Limits.{IsBetween}

pub read_wide : (z : ℤ) → mag z < 2 ^ 127 → to_z w128 (of_z w128 z) ≡ z
read_wide z h = to_z-of_z w128 z (record { sfits = h })

pub read_long : (z : ℤ) → mag z < 2 ^ 63 → to_z w64 (of_z w64 z) ≡ z
read_long z h = to_z-of_z w64 z (record { sfits = h })

pub read_count : (n : ℕ) → n < 2 ^ 63 → to_z w64 n ≡ pos n
read_count n h = to_z_pos w64 n h

pub product_within : (a b m n k : ℕ) → a ≤ m → b ≤ n → m * n ≤ k → a * b ≤ k
product_within a b m n k p q h = let r = mul-le-mul p q in omega arith

-- a product of two counts, as the code reads it
pub read_span : (a b : ℕ) → a ≤ 131072 → b ≤ 4096 → to_z w64 (of_z w64 (to_z w64 a *ℤ to_z w64 b)) ≡ pos (a * b)
read_span a b p q =
    let small = product_within a b 131072 4096 (2 ^ 29) p q (omega arith) in
    rw (read_count a (omega arith), read_count b (omega arith)) (read_long (pos (a * b)) (omega arith))

-- a product of two numbers, as the code reads it
pub read_long_product : (a b : ℤ) (m n : ℕ) → unsigned_abs a ≤ m → unsigned_abs b ≤ n → m * n ≤ 2 ^ 62 → m ≤ 2 ^ 62 → n ≤ 2 ^ 62 →
    to_z w64 (of_z w64 (to_z w64 (of_z w64 a) *ℤ to_z w64 (of_z w64 b))) ≡ a *ℤ b
read_long_product a b m n p q r s t =
    let size = abs-mul_le a b m n p q in
    let fa : FitsSigned w64 a = omega (arith, ints) in
    let fb : FitsSigned w64 b = omega (arith, ints) in
    let fc : FitsSigned w64 (a *ℤ b) = omega (arith, ints) in
    simp (to_z-of_z, fa, fb, fc)

pub div-mono : (a b k : ℕ) → 0 < k → a ≤ b → a / k ≤ b / k
div-mono a b k h l = le-div (a / k) b k h (let d = div-mul-le_self a k in omega arith)

-- a quotient rounded down is at most one farther from zero than the quotient of the sizes
pub abs-div_euclid : (x : ℤ) (k : ℕ) → 0 < k → unsigned_abs (int_div_euclid x (pos k)) ≤ unsigned_abs x / k + 1
abs-div_euclid (pos a) k h = omega arith
abs-div_euclid (negsuc a) k h = let d = div-mono a (suc a) k h (omega arith) in omega arith

-- the same factor above and below goes out
pub div-product : (a b n : ℕ) → 0 < b → 0 < n → a * n / (b * n) ≤ a / b
div-product a b n hb hn =
    let d = div-mul-le_self (a * n) (b * n) in
    let e : a * n / (b * n) * b * n ≤ a * n = omega arith in
    le-div (a * n / (b * n)) a b hb (le_of_mul-le-mul_right e hn)

-- a number of 32 bits, as a call and a cast read it
pub read_short : (z : ℤ) → unsigned_abs z ≤ 2 ^ 30 → to_z w32 (of_z w32 z) ≡ z
read_short z h = omega (arith, ints)

pub read_cast : (z : ℤ) → unsigned_abs z ≤ 2 ^ 30 → to_z w64 (of_z w64 (to_z w32 (of_z w32 z))) ≡ z
read_cast z h = omega (arith, ints)

pub abs-between : (low high : ℕ) (z : ℤ) → IsBetween low high z → unsigned_abs z ≤ high
abs-between low high z h = omega (arith, ints, h.from, h.to)

-- how far a window reaches sideways: 2^20 is the greatest aspect
pub window_quotient : (z length unit : ℕ) → 0 < unit → z ≤ length * 2 ^ 20 → z / (65536 * unit) ≤ 16 * length / unit
window_quotient z length unit h l =
    let d = div-mul-le_self z (65536 * unit) in
    le-div (z / (65536 * unit)) (16 * length) unit h (omega arith)

-- a shift to the right is a division that rounds down
pub read_shifted : (z : ℤ) → mag z < 2 ^ 127 → to_z w128 (of_z w128 (shr_z z 65536)) ≡ int_div_euclid z (pos 65536)
read_shifted (pos n) h = omega (arith, ints)
read_shifted (negsuc n) h = omega (arith, ints)

pub between : (z : ℤ) (m : ℕ) → pos 0 ≤ℤ z → unsigned_abs z ≤ m → IsBetween 0 m z
between z m sign size = record { from = sign; to = omega (arith, ints) }

-- a sum and a count, as the code reads them
pub read_wide_sum : (a b : ℤ) → unsigned_abs a ≤ 2 ^ 110 → unsigned_abs b ≤ 2 ^ 110 →
    to_z w128 (of_z w128 (to_z w128 (of_z w128 a) +ℤ to_z w128 (of_z w128 b))) ≡ a +ℤ b
read_wide_sum a b p q = omega (arith, ints)

pub read_wide_count : (n : ℕ) → n < 2 ^ 64 → to_z w128 n ≡ pos n
read_wide_count n h = to_z_pos w128 n (omega arith)

pub read_wide_cast : (z : ℤ) → FitsSigned w32 z → to_z w128 (of_z w128 (to_z w32 (of_z w32 z))) ≡ z
read_wide_cast z f = omega (arith, ints)
