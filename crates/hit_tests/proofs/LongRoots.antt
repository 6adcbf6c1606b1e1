-- 65536 times a root, by its upper digits.
use Rattle.std.proofs.Common.{◌≡◌, ℕ, ◌+◌, ◌*◌, ◌/◌, ◌^◌, ◌<◌, ◌≤◌, ◌-◌, ◌⊎◌, inl, inr, lit≤, arith}
use Rattle.std.proofs.Math.Nat.{div-mul-le_self, lt-div-mul-add, mul-le-mul, mul-le-mul_right, one-le-pow, pow-le-pow_right}
use Rattle.std.proofs.lemmas.Nat.{pow-add}
use Rattle.fx_math.proofs.SquareRoots.{at_most_of_square}
use Rattle.fx_math.specs.Root.{IsRoot}
use Rattle.picture_model.proofs.Spheres.{le_or_below}

-- the power of the digits' number, twice
power_twice : (k : ℕ) → 2 ^ (2 * k) ≡ 2 ^ k * 2 ^ k
power_twice k = let e : 2 * k ≡ k + k = omega arith in rw e (pow-add 2 k k)

pub record IsLongRoot (n slack root : ℕ) : Type 0 where
  pub low : root * root ≤ 2 ^ 32 * n
  pub high : 2 ^ 32 * n < (root + slack) * (root + slack)

-- q stands for the quotient by p squared
long_root_by : (n p q r slack : ℕ) → q * (p * p) ≤ n → n < q * (p * p) + p * p → IsRoot q r → 65536 * p ≤ slack → IsLongRoot n slack (65536 * r * p)
long_root_by n p q r slack whole next root h =
    let low = mul-le-mul_right (p * p) root.square_at_most in
    let above = root.next_square_above in
    let up : q + 1 ≤ (r + 1) * (r + 1) = omega arith in
    let high = mul-le-mul_right (p * p) up in
    let wider : 65536 * r * p + 65536 * p ≤ 65536 * r * p + slack = omega arith in
    let squares = mul-le-mul wider wider in
    record { low = omega (arith, low, whole); high = omega (arith, high, next, squares) }

pub long_root-is : (n k r slack : ℕ) → IsRoot (n / 2 ^ (2 * k)) r → 65536 * 2 ^ k ≤ slack → IsLongRoot n slack (65536 * r * 2 ^ k)
long_root-is n k r slack root h =
    let some = one-le-pow k 2 (lit≤ tt) in
    let square : 0 < 2 ^ k * 2 ^ k = mul-le-mul some some in
    long_root_by n (2 ^ k) (n / (2 ^ k * 2 ^ k)) r slack (div-mul-le_self n (2 ^ k * 2 ^ k)) (lt-div-mul-add square) (rw (power_twice k) at root) h

-- such a root has room in 80 bits
pub long_root-size : (n slack root : ℕ) → IsLongRoot n slack root → n < 2 ^ 118 → root < 2 ^ 80
long_root-size n slack root is h =
    let low = is.low in
    let most = at_most_of_square root (2 ^ 75) (omega arith) in
    omega arith

-- the power of the digits' number, 65536 times, is no greater than the slack
pub step_within : (slack e : ℕ) → 65536 ≤ slack → 2 ^ e ≤ slack → slack < 2 * 2 ^ e → 65536 * 2 ^ (e - 16) ≤ slack
step_within slack e large low high = by_size (le_or_below e 16)
  where
    by_size : (e < 16) ⊎ (16 ≤ e) → 65536 * 2 ^ (e - 16) ≤ slack
    by_size (inl short) =
        let within : e ≤ 15 = omega arith in
        let power : 2 ^ e ≤ 2 ^ 15 = pow-le-pow_right (lit≤ tt) within in
        absurd (omega arith)
    by_size (inr long) =
        let split = pow-add 2 16 (e - 16) in
        let same : 16 + (e - 16) ≡ e = omega arith in
        let both = rw same at split in
        omega arith
