-- The length of a vector, and what the unit vector's steps need to know of it.
use Rattle.std.proofs.Common.{◌≡◌, ℕ, zero, suc, ◌+◌, ◌-◌, ◌*◌, ◌/◌, ◌^◌, ◌<◌, ◌≤◌, ℤ, pos, negsuc, ◌*ℤ◌, int_div, unsigned_abs, Bool, true, false, nat_lt, ◌⊎◌, inl, inr, lit≤, arith, refl, subst, ap, ◌∙◌, ◌==◌, if◌then◌else◌}
use Rattle.std.proofs.lemmas.Int.{unsigned_abs-mul}
use Rattle.std.proofs.lemmas.Bool.{cases_lt, ltb-true, ltb-false}
use Rattle.std.proofs.lemmas.Bool.Decides.{nat_tests}
use Rattle.std.proofs.lemmas.Nat.{pow-add, le-div}
use Rattle.std.proofs.Math.Nat.{div-le_of_le-mul, div-lt_iff_lt-mul, mul-le-mul, one-le-pow, pow-le-pow_right}
use Rattle.fx_math.specs.declared.vectors.Vec3.{Vec3}
use Rattle.fx_math.specs.Root.{isqrt}
use Rattle.fx_math.specs.Vec3.{reach, times, truncated, dot}
use Rattle.fx_math.specs.UnitVector.{halvings_within, halvings, shortened, long_length, normalized, unit}
use Rattle.fx_math.proofs.Sizes.{abs-int_div, reach_attained, reach_within, reach-truncated, abs-dot}
use Rattle.fx_math.proofs.SquareRoots.{at_most_of_square, isqrt_is}

-- ---- halvings
-- k is the least number of halvings that bring m below 2 ^ 30
pub record IsHalvings (m k : ℕ) : Type 0 where
  pub enough : m < 2 ^ (30 + k)
  pub least : 0 < k → 2 ^ (29 + k) ≤ m

halved_once : (m k : ℕ) → 2 ^ 30 ≤ m → IsHalvings (m / 2) k → IsHalvings m (suc k)
halved_once m k large half = record {
  enough = let e : 2 ^ (1 + (30 + k)) ≡ 2 ^ 1 * 2 ^ (30 + k) = pow-add 2 1 (30 + k) in subst (λ (n : ℕ). m < 2 ^ n) next (omega (arith, half.enough));
  least = λ _. by_count k half;
}
  where
    next : 1 + (30 + k) ≡ 30 + suc k
    next = omega arith

    by_count : (j : ℕ) → IsHalvings (m / 2) j → 2 ^ (29 + suc j) ≤ m
    by_count zero h = large
    by_count (suc j) h =
        let low = h.least (omega arith) in
        let e : 2 ^ (1 + (29 + suc j)) ≡ 2 ^ 1 * 2 ^ (29 + suc j) = pow-add 2 1 (29 + suc j) in
        let f : 1 + (29 + suc j) ≡ 29 + suc (suc j) = omega arith in
        subst (λ (n : ℕ). 2 ^ n ≤ m) f (omega arith)

halvings_within_is : (limit m : ℕ) → m ≤ limit → IsHalvings m (halvings_within limit m)
unfolding halvings_within
halvings_within_is zero m h = record { enough = omega arith; least = λ z. absurd (omega arith) }
halvings_within_is (suc limit) m h = by_test (nat_lt m (2 ^ 30)) refl (λ large. halvings_within_is limit (m / 2) (omega arith))
  where
    by_test : (t : Bool) → nat_lt m (2 ^ 30) ≡ t → (2 ^ 30 ≤ m → IsHalvings (m / 2) (halvings_within limit (m / 2))) →
        IsHalvings m (elim t as (λ _. ℕ) [ true ↦ 0 | false ↦ suc (halvings_within limit (m / 2)) ])
    by_test true e half = record { enough = omega (arith, ltb-true m (2 ^ 30) e); least = λ z. absurd (omega arith) }
    by_test false e half = let large = ltb-false m (2 ^ 30) e in halved_once m (halvings_within limit (m / 2)) large (half large)

pub halvings_is : (m : ℕ) → IsHalvings m (halvings m)
unfolding halvings
halvings_is m = halvings_within_is m m (omega arith)

-- no second number is the least
pub same_halvings : (m j k : ℕ) → IsHalvings m j → IsHalvings m k → j ≡ k
same_halvings m j k p q = by_order (cases_lt j k) (cases_lt k j)
  where
    never : (a b : ℕ) → IsHalvings m a → IsHalvings m b → a < b → ⊥
    never a b f g h =
        let grows : 2 ^ (30 + a) ≤ 2 ^ (29 + b) = pow-le-pow_right (lit≤ tt) (omega arith) in
        let low = g.least (omega arith) in
        omega (arith, f.enough)

    by_order : (j < k) ⊎ (k ≤ j) → (k < j) ⊎ (j ≤ k) → j ≡ k
    by_order (inl h) _ = absurd (never j k p q h)
    by_order (inr h) (inl g) = absurd (never k j q p g)
    by_order (inr h) (inr g) = omega arith

-- what the code counts, from the greatest power of two in m
pub small_halvings : (m : ℕ) → m < 2 ^ 30 → IsHalvings m 0
small_halvings m h = record { enough = h; least = λ z. absurd (omega arith) }

-- such a power is not small
pub large_exponent : (m r : ℕ) → 2 ^ 30 ≤ m → m < 2 * 2 ^ r → 29 < r
large_exponent m r large high = by_order (cases_lt 29 r)
  where
    by_order : (29 < r) ⊎ (r ≤ 29) → 29 < r
    by_order (inl p) = p
    by_order (inr p) = let q : 2 ^ r ≤ 2 ^ 29 = pow-le-pow_right (lit≤ tt) p in absurd (omega arith)

pub large_halvings : (m r : ℕ) → 2 ^ 30 ≤ m → 2 ^ r ≤ m → m < 2 * 2 ^ r → IsHalvings m (r - 29)
large_halvings m r large low high = record {
  enough = let e : 30 + (r - 29) ≡ 1 + r = omega (arith, large_exponent m r large high) in rw e (omega (arith, pow-add 2 1 r));
  least = λ _. let e : 29 + (r - 29) ≡ r = omega (arith, large_exponent m r large high) in rw e low;
}

-- ---- the length
pub square_is : (a : ℤ) → a *ℤ a ≡ pos (unsigned_abs a * unsigned_abs a)
square_is (pos n) = refl
square_is (negsuc n) = refl

-- the scalar square is the sum of the components' squares
pub dot_self : (w : Vec3) → dot w w ≡ pos (unsigned_abs w.x * unsigned_abs w.x + unsigned_abs w.y * unsigned_abs w.y + unsigned_abs w.z * unsigned_abs w.z)
unfolding dot
dot_self w = rw (square_is w.x, square_is w.y, square_is w.z) refl

-- a component is at most the length
below_length : (w : Vec3) (c : ℕ) → c * c ≤ unsigned_abs (dot w w) → c * 65536 ≤ long_length w
unfolding long_length
below_length w c h =
    let root = isqrt_is (2 ^ 32 * unsigned_abs (dot w w)) in
    at_most_of_square (c * 65536) (isqrt (2 ^ 32 * unsigned_abs (dot w w))) (omega (arith, root.next_square_above))

square_x : (w : Vec3) → unsigned_abs w.x * unsigned_abs w.x ≤ unsigned_abs (dot w w)
square_x w = rw (dot_self w) (omega arith)

square_y : (w : Vec3) → unsigned_abs w.y * unsigned_abs w.y ≤ unsigned_abs (dot w w)
square_y w = rw (dot_self w) (omega arith)

square_z : (w : Vec3) → unsigned_abs w.z * unsigned_abs w.z ≤ unsigned_abs (dot w w)
square_z w = rw (dot_self w) (omega arith)

-- and so is the reach
pub reach_below_length : (w : Vec3) → reach w * 65536 ≤ long_length w
reach_below_length w = by_component (reach_attained w)
  where
    by_component : (reach w ≡ unsigned_abs w.x) ⊎ (reach w ≡ unsigned_abs w.y) ⊎ (reach w ≡ unsigned_abs w.z) → reach w * 65536 ≤ long_length w
    by_component (inl e) = rw e (below_length w _ (square_x w))
    by_component (inr (inl e)) = rw e (below_length w _ (square_y w))
    by_component (inr (inr e)) = rw e (below_length w _ (square_z w))

-- a component over the length is at most 1
pub reach-normalized : (w : Vec3) → reach (normalized w) ≤ 65536
unfolding normalized truncated times
reach-normalized w =
    reach_within (normalized w) 65536
    (component w.x (below_length w _ (square_x w)))
    (component w.y (below_length w _ (square_y w)))
    (component w.z (below_length w _ (square_z w)))
  where
    component : (a : ℤ) → unsigned_abs a * 65536 ≤ long_length w → unsigned_abs (int_div (a *ℤ pos (2 ^ 32)) (pos (long_length w))) ≤ 65536
    component a h =
        rw (abs-int_div (a *ℤ pos (2 ^ 32)) (long_length w), unsigned_abs-mul a (pos (2 ^ 32)))
        (div-le_of_le-mul (long_length w) (omega arith))

-- ---- the steps
-- a vector that is not zero stays so, and comes within 2 ^ 30
pub record IsShort (w : Vec3) : Type 0 where
  pub below : reach w < 2 ^ 30
  pub not_zero : 0 < reach w

pub shortened_is : (v : Vec3) → 0 < reach v → IsShort (shortened v)
unfolding shortened
shortened_is v h = by_count (halvings (reach v)) (halvings_is (reach v))
  where
    at_least_one : (k : ℕ) → IsHalvings (reach v) k → 0 < reach v / 2 ^ k
    at_least_one zero is = omega arith
    at_least_one (suc k) is =
        let low = is.least (omega arith) in
        let split = pow-add 2 29 (suc k) in
        le-div 1 (reach v) (2 ^ suc k) (one-le-pow (suc k) 2 (lit≤ tt)) (omega arith)

    by_count : (k : ℕ) → IsHalvings (reach v) k → IsShort (truncated v (2 ^ k))
    by_count k is = record {
      below = rw (reach-truncated v (2 ^ k) positive) ((div-lt_iff_lt-mul positive).1 (omega (arith, is.enough, pow-add 2 30 k)));
      not_zero = rw (reach-truncated v (2 ^ k) positive) (at_least_one k is);
    }
      where
        positive : 0 < 2 ^ k
        positive = one-le-pow k 2 (lit≤ tt)

-- such a vector's length has room in 63 bits
pub length_room : (w : Vec3) → reach w < 2 ^ 30 → long_length w < 2 ^ 63
unfolding long_length
length_room w h =
    let within : reach w ≤ 2 ^ 30 = omega arith in
    let squares : reach w * reach w ≤ 2 ^ 30 * 2 ^ 30 = mul-le-mul within within in
    let root = isqrt_is (2 ^ 32 * unsigned_abs (dot w w)) in
    let low = at_most_of_square (isqrt (2 ^ 32 * unsigned_abs (dot w w))) (2 ^ 63 - 1) (omega (arith, root.square_at_most, abs-dot w w)) in
    omega arith

-- the code's steps make the vector of the definition
pub short_of : (v s : Vec3) (m k : ℕ) → m ≡ reach v → k ≡ halvings m → s ≡ truncated v (2 ^ k) → s ≡ shortened v
unfolding shortened
short_of v s m k e f g = g ∙ ap (λ (j : ℕ). truncated v (2 ^ j)) (f ∙ ap halvings e)

if_positive : (n : ℕ) (a b : Vec3) → 0 < n → (if n == 0 then a else b) ≡ b
if_positive n a b h = let e : (n == 0) ≡ false = grind (arith, nat_tests) in rw e refl

pub unit_of : (v : Vec3) → 0 < reach v → unit v ≡ normalized (shortened v)
unfolding unit
unit_of v h = if_positive (reach v) v (normalized (shortened v)) h

pub unit-zero : (v : Vec3) → reach v ≡ 0 → unit v ≡ v
unfolding unit
unit-zero v e = rw e refl

-- no component of a unit vector is above 65536
pub reach-unit : (v : Vec3) → reach (unit v) ≤ 65536
reach-unit v = by_size (cases_lt 0 (reach v))
  where
    by_size : (0 < reach v) ⊎ (reach v ≤ 0) → reach (unit v) ≤ 65536
    by_size (inl h) = rw (unit_of v h) (reach-normalized (shortened v))
    by_size (inr h) = let e : reach v ≡ 0 = omega arith in rw (unit-zero v e, e) (lit≤ tt)
