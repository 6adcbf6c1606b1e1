-- A quotient by the upper bits of its two numbers.
use Rattle.std.proofs.Common.{◌≡◌, ℕ, ◌+◌, ◌-◌, ◌*◌, ◌/◌, ◌^◌, ◌<◌, ◌≤◌, ◌⊎◌, inl, inr, lit≤, arith}
use Rattle.std.proofs.Math.Nat.{div-lt_iff_lt-mul, div-mul-le_self, lt-div-mul-add, mul-add-div_right, mul-le-mul_left, mul-le-mul_right, one-le-pow, pow-le-pow_right}
use Rattle.std.proofs.lemmas.Nat.{le-div, pow-add}
use Rattle.picture_model.proofs.Numbers.{div-mono}
use Rattle.picture_model.proofs.Spheres.{le_or_below}

-- e + 1 bits, less e - 62 of them, are at most 63
pub upper_bits : (n e s : ℕ) → n < 2 * 2 ^ e → s ≡ e - 62 → n / 2 ^ s < 2 ^ 63
upper_bits n e s h is = rw is ((div-lt_iff_lt-mul (one-le-pow (e - 62) 2 (lit≤ tt))).1 (by_size (le_or_below e 62)))
  where
    by_size : (e < 62) ⊎ (62 ≤ e) → n < 2 ^ 63 * 2 ^ (e - 62)
    by_size (inl short) =
        let within : e ≤ 62 = omega arith in
        let power : 2 ^ e ≤ 2 ^ 62 = pow-le-pow_right (lit≤ tt) within in
        let none : e - 62 ≡ 0 = omega arith in
        rw none (omega arith)
    by_size (inr long) =
        let split = pow-add 2 62 (e - 62) in
        let same : 62 + (e - 62) ≡ e = omega arith in
        let both = rw same at split in
        omega arith

-- the upper bits of a number that is no greater
pub upper_bits-below : (n d p : ℕ) → 0 < p → d ≤ n → n / p < 2 ^ 63 → d / p < 2 ^ 63
upper_bits-below n d p some h k = let smaller = div-mono d n p some h in omega arith

-- the quotient of the upper bits by one more is not too large
pub guess-below : (n d p : ℕ) → 0 < p → n / p / (d / p + 1) * d ≤ n
guess-below n d p some =
    let guess = div-mul-le_self (n / p) (d / p + 1) in
    let upper = mul-le-mul_right p guess in
    let whole = div-mul-le_self n p in
    let next = lt-div-mul-add {a = d} some in
    let above : d ≤ (d / p + 1) * p = omega arith in
    let wider = mul-le-mul_left (n / p / (d / p + 1)) above in
    omega arith

-- what the guess leaves tells the rest of the quotient
pub guess-rest : (n d g : ℕ) → 0 < d → g * d ≤ n → n / d ≡ g + (n - g * d) / d
guess-rest n d g some h =
    let split : n ≡ g * d + (n - g * d) = omega arith in
    let whole = mul-add-div_right some g (n - g * d) in
    rw (← split) at whole

pub rest-none : (r d : ℕ) → r < d → r / d ≡ 0
rest-none r d h =
    let some : 0 < d = omega arith in
    let within : r < 1 * d = omega arith in
    let below = (div-lt_iff_lt-mul some).1 within in
    omega arith

pub rest-one : (r d : ℕ) → d ≤ r → r - d < d → r / d ≡ 1
rest-one r d l h =
    let some : 0 < d = omega arith in
    let within : r < 2 * d = omega arith in
    let below = (div-lt_iff_lt-mul some).1 within in
    let above = le-div 1 r d some (omega arith) in
    omega arith
