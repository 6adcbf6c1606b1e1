-- Where a ray enters a ball, on naturals. With x = square * s and b = 65536 * toward the point at s lies inside exactly where the square of
-- the distance between x and b is at most 2^32 times the discriminant toward * toward - square * excess.
use Rattle.std.proofs.Common.{◌≡◌, ℕ, ◌+◌, ◌-◌, ◌*◌, ◌/◌, ◌^◌, ◌<◌, ◌≤◌, true, false, nat_le, Some, None, arith, sym, ◌⊎◌, inl, inr}
use Rattle.std.proofs.Math.Nat.{mul-le-mul, mul-le-mul_right, mul-le-mul_left, div-mul-le_self, lt-div-mul-add, le_of_mul-le-mul_right}
use Rattle.std.proofs.lemmas.Bool.Decides.{nat_tests}
use Rattle.hit_tests.specs.Approaches.{IsApproachWithin, entry, is_inside}
use Rattle.hit_tests.specs.declared.spheres.Approach.{Approach}
use Rattle.picture_model.proofs.Spheres.{below_or_at, first_from-found, first_from-none, le_or_below}

-- ---- the distance between two numbers
-- d is the distance between x and b
abbrev IsGap : ℕ → ℕ → ℕ → Type 0
IsGap x b d = (x + d ≡ b) ⊎ (b + d ≡ x)

gap-square : (x b d : ℕ) → IsGap x b d → d * d + 2 * (b * x) ≡ b * b + x * x
gap-square x b d (inl e) = rw (← e) (omega arith)
gap-square x b d (inr e) = rw (← e) (omega arith)

-- twice the product is at most the sum of the squares
product-squares : (x b : ℕ) → 2 * (b * x) ≤ b * b + x * x
product-squares x b = elim (le_or_below x b) [
  | inl lt ↦ omega (arith, gap-square x b (b - x) (inl (omega arith)))
  | inr ge ↦ omega (arith, gap-square x b (x - b) (inr (omega arith)))
]

-- ---- one point, by the square of its gap
-- the two sides of the test at s, times the square of the direction
sides : (a : Approach) (s n : ℕ) → a.toward * a.toward ≡ n + a.square * a.excess → (d : ℕ) → IsGap (a.square * s) (65536 * a.toward) d →
    (a.square * s * s + 2 ^ 32 * a.excess) * a.square + 2 ^ 32 * n ≡ d * d + 131072 * a.toward * s * a.square
sides a s n e d gap =
    let squares = gap-square (a.square * s) (65536 * a.toward) d gap in
    omega (arith, e, squares)

to_le : (l r : ℕ) → l ≤ r → nat_le l r ≡ true
to_le l r h = grind (arith, nat_tests)

to_not_le : (l r : ℕ) → (l ≤ r → ⊥) → nat_le l r ≡ false
to_not_le l r f = grind (arith, nat_tests)

inside_of : (a : Approach) (s n d : ℕ) → 0 < a.square → a.toward * a.toward ≡ n + a.square * a.excess → IsGap (a.square * s) (65536 * a.toward) d →
    d * d ≤ 2 ^ 32 * n → is_inside a s ≡ true
unfolding is_inside
inside_of a s n d moving e gap h =
    let both = sides a s n e d gap in
    let le : (a.square * s * s + 2 ^ 32 * a.excess) * a.square ≤ 131072 * a.toward * s * a.square = omega arith in
    to_le _ _ (le_of_mul-le-mul_right le moving)

outside_of : (a : Approach) (s n d : ℕ) → a.toward * a.toward ≡ n + a.square * a.excess → IsGap (a.square * s) (65536 * a.toward) d →
    2 ^ 32 * n < d * d → is_inside a s ≡ false
unfolding is_inside
outside_of a s n d e gap h =
    let both = sides a s n e d gap in
    to_not_le _ _ (λ le. let more = mul-le-mul_right a.square le in absurd (omega arith))

-- a line that passes the ball has no point inside
outside_apart : (a : Approach) (s : ℕ) → a.toward * a.toward < a.square * a.excess → is_inside a s ≡ false
unfolding is_inside
outside_apart a s h =
    let squares = product-squares (a.square * s) (65536 * a.toward) in
    to_not_le _ _ (λ le. let more = mul-le-mul_right a.square le in absurd (omega arith))

pub apart : (a : Approach) → a.toward * a.toward < a.square * a.excess → None ≡ entry a
unfolding entry
apart a h = sym (first_from-none (is_inside a) (2 ^ 32 + 1) 0 (λ j l. outside_apart a j h))

-- ---- all points, by a root
-- n is the discriminant, and root is 65536 times its root or less by at most the square of the direction
pub record IsRooted (a : Approach) (n root : ℕ) : Type 0 where
  pub discriminant : a.toward * a.toward ≡ n + a.square * a.excess
  pub low : root * root ≤ 2 ^ 32 * n
  pub high : 2 ^ 32 * n < (root + a.square) * (root + a.square)

abbrev discriminant : Approach → ℕ
discriminant a = a.toward * a.toward - a.square * a.excess

pub rooted : (a : Approach) (root : ℕ) → a.square * a.excess ≤ a.toward * a.toward → root * root ≤ 2 ^ 32 * discriminant a →
    2 ^ 32 * discriminant a < (root + a.square) * (root + a.square) → IsRooted a (discriminant a) root
rooted a root reached low high = record { discriminant = omega arith; low = low; high = high }

-- the ray starts outside, so the root is less than the way to the middle
pub root_below : (a : Approach) (n root : ℕ) → IsApproachWithin a → IsRooted a n root → root < 65536 * a.toward
root_below a n root within r = by_order (le_or_below root (65536 * a.toward))
  where
    by_order : (root < 65536 * a.toward) ⊎ (65536 * a.toward ≤ root) → root < 65536 * a.toward
    by_order (inl lt) = lt
    by_order (inr ge) =
        let some = mul-le-mul within.moving within.outside in
        let squares = mul-le-mul ge ge in
        absurd (omega (arith, r.discriminant, r.low))

-- the number before which no point is inside
abbrev pub first : Approach → ℕ → ℕ
first a root = (65536 * a.toward - root - 1) / a.square

outside_before : (a : Approach) (n root s : ℕ) → IsApproachWithin a → IsRooted a n root → s < first a root → is_inside a s ≡ false
outside_before a n root s within r h =
    let below = root_below a n root within r in
    let start = div-mul-le_self (65536 * a.toward - root - 1) a.square in
    let next : s + 1 ≤ first a root = omega arith in
    let step = mul-le-mul_right a.square next in
    let wide : root + a.square ≤ 65536 * a.toward - a.square * s = omega arith in
    let squares = mul-le-mul wide wide in
    outside_of a s n (65536 * a.toward - a.square * s) r.discriminant (inl (omega arith)) (omega (arith, r.high))

-- behind the number after it, where that is not inside, no point is
outside_after : (a : Approach) (n root s : ℕ) → IsApproachWithin a → IsRooted a n root → is_inside a (first a root + 1) ≡ false → first a root + 1 ≤ s → is_inside a s ≡ false
outside_after a n root s within r o h = by_order (le_or_below (65536 * a.toward) (a.square * (first a root + 1)))
  where
    near : 65536 * a.toward ≤ a.square * (first a root + 1) + root
    near = let end = lt-div-mul-add {a = 65536 * a.toward - root - 1} within.moving in omega arith

    inside : (d : ℕ) → IsGap (a.square * (first a root + 1)) (65536 * a.toward) d → d * d ≤ 2 ^ 32 * n → ⊥
    inside d gap le = let i = inside_of a (first a root + 1) n d within.moving r.discriminant gap le in absurd (cc)

    by_order : (65536 * a.toward < a.square * (first a root + 1)) ⊎ (a.square * (first a root + 1) ≤ 65536 * a.toward) → is_inside a s ≡ false
    by_order (inl lt) = beyond (le_or_below (2 ^ 32 * n) ((a.square * (first a root + 1) - 65536 * a.toward) * (a.square * (first a root + 1) - 65536 * a.toward)))
      where
        beyond : (2 ^ 32 * n < (a.square * (first a root + 1) - 65536 * a.toward) * (a.square * (first a root + 1) - 65536 * a.toward)) ⊎ ((a.square * (first a root + 1) - 65536 * a.toward) * (a.square * (first a root + 1) - 65536 * a.toward) ≤ 2 ^ 32 * n) → is_inside a s ≡ false
        beyond (inl far) =
            let farther = mul-le-mul_left a.square h in
            let grows : a.square * (first a root + 1) - 65536 * a.toward ≤ a.square * s - 65536 * a.toward = omega arith in
            let squares = mul-le-mul grows grows in
            outside_of a s n (a.square * s - 65536 * a.toward) r.discriminant (inr (omega arith)) (omega arith)
        beyond (inr close) = absurd (inside _ (inr (omega arith)) close)
    by_order (inr le) =
        let small : 65536 * a.toward - a.square * (first a root + 1) ≤ root = omega (arith, near) in
        let squares = mul-le-mul small small in
        absurd (inside (65536 * a.toward - a.square * (first a root + 1)) (inl (omega arith)) (omega (arith, r.low)))

-- ---- the entry
before_next : (a : Approach) (n root j : ℕ) → IsApproachWithin a → IsRooted a n root → is_inside a (first a root) ≡ false → j < first a root + 1 → is_inside a j ≡ false
before_next a n root j within r o l =
    elim (below_or_at j (first a root) (omega arith)) [
      | inl lt ↦ outside_before a n root j within r lt
      | inr e ↦ rw e o
    ]

pub never_near : (a : Approach) (n root : ℕ) → IsApproachWithin a → IsRooted a n root → 2 ^ 32 < first a root → None ≡ entry a
unfolding entry
never_near a n root within r far = sym (first_from-none (is_inside a) (2 ^ 32 + 1) 0 (λ j l. outside_before a n root j within r (omega arith)))

pub at_first : (a : Approach) (n root : ℕ) → IsApproachWithin a → IsRooted a n root → first a root ≤ 2 ^ 32 → is_inside a (first a root) ≡ true → Some (first a root) ≡ entry a
unfolding entry
at_first a n root within r near i =
    sym (first_from-found (is_inside a) (2 ^ 32 + 1) 0 (first a root) (omega arith) (omega arith) (λ j l. outside_before a n root j within r l) i)

pub at_next : (a : Approach) (n root : ℕ) → IsApproachWithin a → IsRooted a n root → first a root < 2 ^ 32 → is_inside a (first a root) ≡ false →
    is_inside a (first a root + 1) ≡ true → Some (first a root + 1) ≡ entry a
unfolding entry
at_next a n root within r near o i =
    sym (first_from-found (is_inside a) (2 ^ 32 + 1) 0 (first a root + 1) (omega arith) (omega arith) (λ j l. before_next a n root j within r o l) i)

pub at_the_end : (a : Approach) (n root : ℕ) → IsApproachWithin a → IsRooted a n root → 2 ^ 32 ≤ first a root → is_inside a (first a root) ≡ false → None ≡ entry a
unfolding entry
at_the_end a n root within r end o = sym (first_from-none (is_inside a) (2 ^ 32 + 1) 0 (λ j l. before_next a n root j within r o (omega arith)))

pub between_points : (a : Approach) (n root : ℕ) → IsApproachWithin a → IsRooted a n root → is_inside a (first a root) ≡ false → is_inside a (first a root + 1) ≡ false → None ≡ entry a
unfolding entry
between_points a n root within r o next = sym (first_from-none (is_inside a) (2 ^ 32 + 1) 0 outside)
  where
    outside : (j : ℕ) → j < 0 + (2 ^ 32 + 1) → is_inside a j ≡ false
    outside j l = elim (le_or_below j (first a root + 1)) [
      | inl lt ↦ before_next a n root j within r o lt
      | inr ge ↦ outside_after a n root j within r next ge
    ]
