-- The root of a whole number: there is one and no second, and how it is found from above.
use Rattle.std.proofs.Common.{◌≡◌, ℕ, zero, suc, ◌+◌, ◌-◌, ◌*◌, ◌/◌, min, ◌^◌, ◌<◌, ◌≤◌, arith, sym, subst, ◌⊎◌, inl, inr, lit≤}
use Rattle.std.proofs.Math.Nat.{mul-le-mul, mul-le-mul_right, lt-mul-div-succ, div-mul-le_self, pow-le-pow_right, one-le-pow, lt_of_mul-lt-mul_right, div-lt_iff_lt-mul, le-div_iff_mul-le, mul-pos}
use Rattle.std.proofs.lemmas.Nat.{pow-add}
use Rattle.std.proofs.lemmas.Bool.{cases_lt}
use Rattle.std.proofs.lemmas.Bool.Decides.{nat_tests}
use Rattle.fx_math.specs.Root.{IsRoot, root_or_next, root_at, isqrt}

-- a number whose square is below that of n + 1 is at most n
pub at_most_of_square : (m n : ℕ) → m * m < (n + 1) * (n + 1) → m ≤ n
at_most_of_square m n h = by_order (cases_lt n m)
  where
    by_order : (n < m) ⊎ (m ≤ n) → m ≤ n
    by_order (inr p) = p
    by_order (inl p) = let q : (n + 1) * (n + 1) ≤ m * m = mul-le-mul (omega arith) (omega arith) in omega arith

-- a number has one root
pub same_root : (n r s : ℕ) → IsRoot n r → IsRoot n s → r ≡ s
same_root n r s p q =
    let low : r ≤ s = at_most_of_square r s (omega (arith, p.square_at_most, q.next_square_above)) in
    let high : s ≤ r = at_most_of_square s r (omega (arith, q.square_at_most, p.next_square_above)) in
    omega arith

-- a step of the digits
root_or_next_is : (n r : ℕ) → r * r ≤ n → n < (r + 2) * (r + 2) → IsRoot n (root_or_next n r)
unfolding root_or_next
root_or_next_is n r low high = grind (arith, nat_tests)

root_at_is : (k n : ℕ) → n ≤ k → IsRoot n (root_at k n)
unfolding root_at
root_at_is zero n h = let e : n ≡ 0 = omega arith in rw e (record { square_at_most = omega arith; next_square_above = omega arith })
root_at_is (suc k) zero h = record { square_at_most = omega arith; next_square_above = omega arith }
root_at_is (suc k) (suc m) h =
    let s = root_at_is k (suc m / 4) (omega arith) in
    root_or_next_is (suc m) (2 * root_at k (suc m / 4)) (omega (arith, s.square_at_most)) (omega (arith, s.next_square_above))

-- `isqrt n` is the greatest whole number whose square is at most n
pub isqrt_is : (n : ℕ) → IsRoot n (isqrt n)
unfolding isqrt
isqrt_is n = root_at_is n n (omega arith)

-- what has the two properties of the root is the root
pub isqrt_by : (n r : ℕ) → IsRoot n r → r ≡ isqrt n
isqrt_by n r p = same_root n r (isqrt n) p (isqrt_is n)

-- four times a product is at most the square of the sum
pub four_products : (b c : ℕ) → 4 * (b * c) ≤ (b + c) * (b + c)
four_products b c = by_order (cases_lt b c)
  where
    from_gap : (m d : ℕ) → 4 * (m * (m + d)) ≤ (m + (m + d)) * (m + (m + d))
    from_gap m d = omega arith

    by_order : (b < c) ⊎ (c ≤ b) → 4 * (b * c) ≤ (b + c) * (b + c)
    by_order (inl p) = let e : c ≡ b + (c - b) = omega arith in rw e (from_gap b (c - b))
    by_order (inr p) = let e : b ≡ c + (b - c) = omega arith in rw e (omega (arith, from_gap c (b - c)))

-- half the sum of b and n / b is the root of n or above it
pub mean_above : (n b : ℕ) → 0 < b → n < ((b + n / b) / 2 + 1) * ((b + n / b) / 2 + 1)
mean_above n b h = from_mean (n / b) ((b + n / b) / 2) (omega (arith, lt-mul-div-succ n h)) (omega arith)
  where
    from_mean : (q y : ℕ) → n < b * (q + 1) → b + (q + 1) ≤ 2 * (y + 1) → n < (y + 1) * (y + 1)
    from_mean q y below half =
        let square = mul-le-mul half half in
        let products = four_products b (q + 1) in
        omega arith

-- a number above the root is not 0, and divides n to less than itself
pub positive_root : (n b : ℕ) → n < b * b → 0 < b
positive_root n zero h = omega arith
positive_root n (suc b) h = omega arith

pub quotient_below : (n b : ℕ) → n < b * b → n / b < b
quotient_below n b h = (div-lt_iff_lt-mul (positive_root n b h)).1 h

-- ---- the first guess: the power of two next to the root, and one step from there
-- what the guess needs to know of it, for n with 2 ^ r ≤ n < 2 * 2 ^ r
pub record Guess (n half : ℕ) : Type 0 where
  pub bound : 2 ^ half + n / 2 ^ half < 2 ^ 33
  pub positive : 0 < 2 ^ half

pub guess_is : (n r : ℕ) → r < 64 → n < 2 * 2 ^ r → n < 2 ^ 64 → Guess n ((r + 1) / 2)
guess_is n r h below fits = by_size ((r + 1) / 2) (omega arith) (omega arith) (cases_lt ((r + 1) / 2) 32)
  where
    from_half : (b q : ℕ) → n < 2 * (b * b) → q * b ≤ n → 0 < b → q < 2 * b
    from_half b q p d z = lt_of_mul-lt-mul_right b (omega arith)

    by_size : (k : ℕ) → r ≤ k + k → k ≤ 32 → (k < 32) ⊎ (32 ≤ k) → Guess n k
    by_size k twice most (inl small) =
        let half_bound : k ≤ 31 = omega arith in
        let power : 2 ^ k ≤ 2 ^ 31 = pow-le-pow_right (lit≤ tt) half_bound in
        let squares : 2 ^ r ≤ 2 ^ k * 2 ^ k = subst (λ (m : ℕ). 2 ^ r ≤ m) (pow-add 2 k k) (pow-le-pow_right (lit≤ tt) twice) in
        let positive : 0 < 2 ^ k = one-le-pow k 2 (lit≤ tt) in
        let quotient : n / 2 ^ k < 2 * 2 ^ k = from_half (2 ^ k) (n / 2 ^ k) (omega arith) (div-mul-le_self n (2 ^ k)) positive in
        record { bound = omega arith; positive = positive }
    by_size k twice most (inr large) =
        let e : k ≡ 32 = omega arith in
        subst (λ (m : ℕ). Guess n m) (sym e) (record { bound = omega arith; positive = lit≤ tt })

-- ---- a root from the root s of the upper digits to the base b
-- t is n without its last digit, and q + 1 is more than what t has over s * s * b, divided by 2 * s
pub from_upper : (n b t s rest q : ℕ) → n < (t + 1) * b → t ≡ s * s * b + rest → rest < 2 * s * (q + 1) → n < (s * b + q + 1) * (s * b + q + 1)
from_upper n b t s rest q below parts digit =
    let digits = mul-le-mul_right b digit in
    let square : (s * b + q + 1) * (s * b + q + 1) ≡ s * s * b * b + 2 * s * (q + 1) * b + (q + 1) * (q + 1) = omega arith in
    let top : (t + 1) * b ≡ s * s * b * b + suc rest * b = rw parts (omega arith) in
    omega arith

-- the last digit is below b
pub from_next : (n b high s : ℕ) → 0 < b → n < (high + 1) * (b * b) → high < (s + 1) * (s + 1) → n < (s * b + (b - 1) + 1) * (s * b + (b - 1) + 1)
from_next n b high s p below above =
    let e : s * b + (b - 1) + 1 ≡ (s + 1) * b = omega arith in
    let squares : (high + 1) * (b * b) ≤ (s + 1) * (s + 1) * (b * b) = mul-le-mul_right (b * b) (omega arith) in
    rw e (omega arith)

-- what the digits of a number above 2 ^ 64 need to know of the base b, for 2 ^ r ≤ n < 2 * 2 ^ r
pub record Base (n k : ℕ) : Type 0 where
  pub squared : 2 ^ (2 * k) ≡ 2 ^ k * 2 ^ k
  pub positive : 0 < 2 ^ k
  pub most : 2 ^ k ≤ 2 ^ 32
  pub upper_fits : n / 2 ^ (2 * k) < 2 ^ 64
  pub upper_positive : 0 < n / 2 ^ (2 * k)

pub base_is : (n r : ℕ) → r < 128 → 2 ^ 64 ≤ n → 2 ^ r ≤ n → n < 2 * 2 ^ r → Base n ((r - 62) / 2)
base_is n r h large low high = by_bits ((r - 62) / 2) (omega arith) (omega arith) (omega arith)
  where
    enough : 63 < r
    enough = by_order (cases_lt 63 r)
      where
        by_order : (63 < r) ⊎ (r ≤ 63) → 63 < r
        by_order (inl p) = p
        by_order (inr p) = let q : 2 ^ r ≤ 2 ^ 63 = pow-le-pow_right (lit≤ tt) p in absurd (omega arith)

    by_bits : (k : ℕ) → 2 * k ≤ r → r + 1 ≤ 2 * k + 64 → k ≤ 32 → Base n k
    by_bits k below above most = record {
      squared = squared;
      positive = one-le-pow k 2 (lit≤ tt);
      most = pow-le-pow_right (lit≤ tt) most;
      upper_fits = (div-lt_iff_lt-mul square_positive).1 (omega (arith, top));
      upper_positive = (le-div_iff_mul-le square_positive).1 (omega (arith, bottom));
    }
      where
        squared : 2 ^ (2 * k) ≡ 2 ^ k * 2 ^ k
        squared = let e : 2 * k ≡ k + k = omega arith in rw e (pow-add 2 k k)

        square_positive : 0 < 2 ^ (2 * k)
        square_positive = one-le-pow (2 * k) 2 (lit≤ tt)

        top : 2 * 2 ^ r ≤ 2 ^ 64 * 2 ^ (2 * k)
        top =
            let e : 2 ^ (r + 1) ≡ 2 ^ r * 2 ^ 1 = pow-add 2 r 1 in
            let f : 2 ^ (2 * k + 64) ≡ 2 ^ (2 * k) * 2 ^ 64 = pow-add 2 (2 * k) 64 in
            let g : 2 ^ (r + 1) ≤ 2 ^ (2 * k + 64) = pow-le-pow_right (lit≤ tt) above in
            omega arith

        bottom : 2 ^ (2 * k) ≤ 2 ^ r
        bottom = pow-le-pow_right (lit≤ tt) below

-- the digit below the upper ones, and the number that it makes
pub record Digits (n b s : ℕ) : Type 0 where
  pub room : s * s * b ≤ n / b
  pub above : n < (s * b + min ((n / b - s * s * b) / (2 * s)) (b - 1) + 1) * (s * b + min ((n / b - s * s * b) / (2 * s)) (b - 1) + 1)
  pub size : s * b + min ((n / b - s * s * b) / (2 * s)) (b - 1) < 2 ^ 64
  pub divisor : 0 < 2 * s

pub digits_are : (n b s : ℕ) → 0 < b → b ≤ 2 ^ 32 → s < 2 ^ 32 → 0 < n / (b * b) → IsRoot (n / (b * b)) s → Digits n b s
digits_are n b s positive most small upper root = record {
  room = room;
  above = above (cases_lt digit b);
  size = omega (arith, whole);
  divisor = omega (arith, root_positive s root.next_square_above);
}
  where
    rest : ℕ
    rest = n / b - s * s * b

    digit : ℕ
    digit = (n / b - s * s * b) / (2 * s)

    root_positive : (m : ℕ) → n / (b * b) < (m + 1) * (m + 1) → 0 < m
    root_positive zero h = omega arith
    root_positive (suc m) h = omega arith

    room : s * s * b ≤ n / b
    room =
        let squares = mul-le-mul_right (b * b) root.square_at_most in
        let under = div-mul-le_self n (b * b) in
        (le-div_iff_mul-le positive).1 (omega arith)

    whole : (s + 1) * b ≤ 2 ^ 32 * 2 ^ 32
    whole = let above : s + 1 ≤ 2 ^ 32 = omega arith in mul-le-mul above most

    above : (digit < b) ⊎ (b ≤ digit) → n < (s * b + min digit (b - 1) + 1) * (s * b + min digit (b - 1) + 1)
    above (inl below) =
        let e : min digit (b - 1) ≡ digit = omega arith in
        rw e (from_upper n b (n / b) s rest digit (omega (arith, lt-mul-div-succ n positive)) (omega (arith, room)) (lt-mul-div-succ rest (omega (arith, root_positive s root.next_square_above))))
    above (inr at_least) =
        let e : min digit (b - 1) ≡ b - 1 = omega arith in
        rw e (from_next n b (n / (b * b)) s positive (omega (arith, lt-mul-div-succ n (mul-pos positive positive))) root.next_square_above)
