-- The distance of a ray's points from a ball's centre, and what three numbers of the ray and the ball tell of it.
use Rattle.std.proofs.Common.{◌≡◌, ℕ, zero, suc, ◌+◌, ◌*◌, ◌^◌, ◌<◌, ◌≤◌, ℤ, pos, negsuc, neg_ℤ, ◌+ℤ◌, ◌-ℤ◌, ◌*ℤ◌, ◌≤ℤ◌, ◌<ℤ◌, int_le, unsigned_abs, nat_le, Bool, true, false, Some, None, FitsSigned, to_z, of_z, arith, refl, sym, ◌∙◌, ◌⊎◌, inl, inr}
use Rattle.std.proofs.lemmas.Bool.Decides.{nat_tests}
use Rattle.std.proofs.lemmas.Int.{ints, to_z-of_z}
use Rattle.std.proofs.Math.Nat.{mul-le-mul}
use borrow.Author.Differences.{up, down}
use mir.Syntax.{w64}
use Rattle.fx_math.proofs.Lengths.{dot_self}
use Rattle.fx_math.proofs.Rings.{Is, Is-add, Is-mul, Is-natural, Is-parts, dot-add, dot-times, dot_comm}
use Rattle.fx_math.proofs.Sizes.{abs-dot, abs-mul_le, reach_attained}
use Rattle.fx_math.specs.Vec3.{add, dot, reach, sub, times}
use Rattle.fx_math.specs.declared.vectors.Ray.{Ray}
use Rattle.fx_math.specs.declared.vectors.Vec3.{Vec3}
use Rattle.hit_tests.specs.Approaches.{entry, is_inside}
use Rattle.hit_tests.specs.declared.spheres.Approach.{Approach}
use Rattle.picture_model.proofs.Spheres.{first_from-found, first_from-none, found_here, found_later, found_never, from_le, le_or_below, to_le}
use Rattle.picture_model.specs.Depths.{distance_at, first_from, from_centre, is_in_ball, sphere_depth}

-- ---- the squared distance is a quadratic of s
distance-parts : (m d : Vec3) (k s : ℤ) →
    dot (add (times m k) (times d s)) (add (times m k) (times d s)) ≡ (dot m m *ℤ k +ℤ dot m d *ℤ s) *ℤ k +ℤ (dot m d *ℤ k +ℤ dot d d *ℤ s) *ℤ s
distance-parts m d k s =
    dot-add w (times m k) (times d s)
    ∙ rw (dot-times w m k, dot-times w d s, along m, along d, dot_comm d m) refl
  where
    w : Vec3
    w = add (times m k) (times d s)

    along : (v : Vec3) → dot w v ≡ dot v m *ℤ k +ℤ dot v d *ℤ s
    along v = dot_comm w v ∙ dot-add v (times m k) (times d s) ∙ rw (dot-times v m k, dot-times v d s) refl

-- it is told as a difference: m . m and d . d are naturals
quadratic : (a c s : ℕ) (b : ℤ) →
    Is ((pos a *ℤ pos 65536 +ℤ b *ℤ pos s) *ℤ pos 65536 +ℤ (b *ℤ pos 65536 +ℤ pos c *ℤ pos s) *ℤ pos s)
    (2 ^ 32 * a + c * s * s + 131072 * up b * s) (131072 * down b * s)
quadratic a c s b =
    let n = Is-natural in
    let whole =
    Is-add _ _ _ _ _ _
    (Is-mul _ _ _ _ _ _ (Is-add _ _ _ _ _ _ (Is-mul _ _ _ _ _ _ (n a) (n 65536)) (Is-mul _ _ _ _ _ _ (Is-parts b) (n s))) (n 65536))
    (Is-mul _ _ _ _ _ _ (Is-add _ _ _ _ _ _ (Is-mul _ _ _ _ _ _ (Is-parts b) (n 65536)) (Is-mul _ _ _ _ _ _ (n c) (n s))) (n s)) in
    record { is = omega (arith, whole.is) }

square-natural : (w : Vec3) → dot w w ≡ pos (unsigned_abs (dot w w))
square-natural w = rw (dot_self w) refl

pub distance-is : (ray : Ray) (centre : Vec3) (s : ℕ) →
    Is (distance_at ray centre s)
    (2 ^ 32 * unsigned_abs (dot (sub ray.o centre) (sub ray.o centre)) + unsigned_abs (dot ray.d ray.d) * s * s + 131072 * up (dot (sub ray.o centre) ray.d) * s)
    (131072 * down (dot (sub ray.o centre) ray.d) * s)
unfolding distance_at from_centre
distance-is ray centre s =
    rw (distance-parts (sub ray.o centre) ray.d (pos 65536) (pos s), square-natural (sub ray.o centre), square-natural ray.d)
    (quadratic (unsigned_abs (dot (sub ray.o centre) (sub ray.o centre))) (unsigned_abs (dot ray.d ray.d)) s (dot (sub ray.o centre) ray.d))

-- ---- the test of a point
le_is-true : (z : ℤ) (u v k : ℕ) → Is z u v → u ≤ k + v → int_le z (pos k) ≡ true
le_is-true z u v k p h = to_le z (pos k) (omega (arith, ints, p.is))

not_le : (a b : ℤ) → b <ℤ a → int_le a b ≡ false
not_le a b h = grind (arith, ints)

le_is-false : (z : ℤ) (u v k : ℕ) → Is z u v → k + v < u → int_le z (pos k) ≡ false
le_is-false z u v k p h = not_le z (pos k) (omega (arith, ints, p.is))

-- the numbers of an approach, as those of its ray and its ball
pub record IsApproach (ray : Ray) (centre : Vec3) (radius : ℕ) (a : Approach) : Type 0 where
  pub square : a.square ≡ unsigned_abs (dot ray.d ray.d)
  pub toward : dot (sub ray.o centre) ray.d ≡ neg_ℤ (pos a.toward)
  pub excess : unsigned_abs (dot (sub ray.o centre) (sub ray.o centre)) ≡ a.excess + radius * radius

toward_parts : (b : ℤ) (n : ℕ) → b ≡ neg_ℤ (pos n) → (up b ≡ 0) × (down b ≡ n)
toward_parts b n e = (omega (arith, ints), omega (arith, ints))

inside-le : (l r : ℕ) → l ≤ r → nat_le l r ≡ true
inside-le l r h = grind (arith, nat_tests)

outside-lt : (l r : ℕ) → r < l → nat_le l r ≡ false
outside-lt l r h = grind (arith, nat_tests)

in_ball-is : (ray : Ray) (centre : Vec3) (radius : ℕ) (a : Approach) → IsApproach ray centre radius a → (s : ℕ) → is_in_ball ray centre (pos radius) s ≡ is_inside a s
unfolding is_in_ball is_inside
in_ball-is ray centre radius a is s =
    by_order (le_or_below (131072 * a.toward * s) (a.square * s * s + 2 ^ 32 * a.excess))
  where
    parts : (up (dot (sub ray.o centre) ray.d) ≡ 0) × (down (dot (sub ray.o centre) ray.d) ≡ a.toward)
    parts = toward_parts _ a.toward is.toward

    distance : Is (distance_at ray centre s) (2 ^ 32 * (a.excess + radius * radius) + a.square * s * s) (131072 * a.toward * s)
    distance =
        let whole = rw (is.excess, ← is.square, parts.0, parts.1) at (distance-is ray centre s) in
        record { is = omega (arith, whole.is) }

    by_order : (131072 * a.toward * s < a.square * s * s + 2 ^ 32 * a.excess) ⊎ (a.square * s * s + 2 ^ 32 * a.excess ≤ 131072 * a.toward * s) →
        int_le (distance_at ray centre s) (pos (65536 * radius * (65536 * radius))) ≡ nat_le (a.square * s * s + 2 ^ 32 * a.excess) (131072 * a.toward * s)
    by_order (inl lt) = le_is-false _ _ _ _ distance (omega arith) ∙ sym (outside-lt _ _ lt)
    by_order (inr le) = le_is-true _ _ _ _ distance (omega arith) ∙ sym (inside-le _ _ le)

-- ---- the entry
same_first : (f g : ℕ → Bool) (n k : ℕ) → f k ≡ g k → (first_from f n (suc k) ≡ first_from g n (suc k)) → first_from f (suc n) k ≡ first_from g (suc n) k
same_first f g n k e later = by_test (f k) refl
  where
    by_test : (b : Bool) → f k ≡ b → first_from f (suc n) k ≡ first_from g (suc n) k
    by_test true t = found_here f n k t ∙ sym (found_here g n k (sym e ∙ t))
    by_test false t = found_later f n k t ∙ later ∙ sym (found_later g n k (sym e ∙ t))

first_from-same : (f g : ℕ → Bool) → ((s : ℕ) → f s ≡ g s) → (n k : ℕ) → first_from f n k ≡ first_from g n k
first_from-same f g same zero k = found_never f k ∙ sym (found_never g k)
first_from-same f g same (suc n) k = same_first f g n k (same k) (first_from-same f g same n (suc k))

pub enters : (ray : Ray) (centre : Vec3) (radius : ℕ) (a : Approach) → IsApproach ray centre radius a → entry a ≡ sphere_depth ray centre (pos radius)
unfolding entry sphere_depth
enters ray centre radius a is = first_from-same (is_inside a) (is_in_ball ray centre (pos radius)) (λ s. sym (in_ball-is ray centre radius a is s)) (2 ^ 32 + 1) 0

-- a ray that starts in the ball is in it at once
pub starts_inside : (ray : Ray) (centre : Vec3) (radius : ℕ) → unsigned_abs (dot (sub ray.o centre) (sub ray.o centre)) ≤ radius * radius → Some 0 ≡ sphere_depth ray centre (pos radius)
unfolding sphere_depth is_in_ball
starts_inside ray centre radius h =
    sym (first_from-found (is_in_ball ray centre (pos radius)) (2 ^ 32 + 1) 0 0 (omega arith) (omega arith) (λ j l. absurd (omega arith))
    (le_is-true _ _ _ _ (distance-is ray centre 0) (omega arith)))

down_zero : (b : ℤ) → pos 0 ≤ℤ b → down b ≡ 0
down_zero (pos n) h = refl
down_zero (negsuc n) h = absurd (omega (arith, ints))

-- one that starts outside and comes no nearer never is
pub goes_away : (ray : Ray) (centre : Vec3) (radius : ℕ) → radius * radius < unsigned_abs (dot (sub ray.o centre) (sub ray.o centre)) → pos 0 ≤ℤ dot (sub ray.o centre) ray.d →
    None ≡ sphere_depth ray centre (pos radius)
unfolding sphere_depth is_in_ball
goes_away ray centre radius h away =
    sym (first_from-none (is_in_ball ray centre (pos radius)) (2 ^ 32 + 1) 0 (λ j l. outside j))
  where
    outside : (s : ℕ) → is_in_ball ray centre (pos radius) s ≡ false
    outside s =
        let down_is = down_zero (dot (sub ray.o centre) ray.d) away in
        le_is-false _ _ _ _ (distance-is ray centre s) (rw down_is (omega arith))

-- ---- the numbers in the code
pub natural : (r : ℤ) → pos 0 ≤ℤ r → r ≡ pos (unsigned_abs r)
natural r h = omega (arith, ints)

-- the excess, as the code computes it
pub record IsExcess (m r : ℤ) : Type 0 where
  pub fits : FitsSigned w64 (to_z w64 (of_z w64 m) -ℤ to_z w64 (of_z w64 (to_z w64 (of_z w64 r) *ℤ to_z w64 (of_z w64 r))))
  pub is : to_z w64 (of_z w64 (to_z w64 (of_z w64 m) -ℤ to_z w64 (of_z w64 (to_z w64 (of_z w64 r) *ℤ to_z w64 (of_z w64 r))))) ≡ m -ℤ r *ℤ r

pub excess-is : (m r : ℤ) → unsigned_abs m ≤ 2 ^ 62 + 2 ^ 61 → unsigned_abs r ≤ 2 ^ 28 → IsExcess m r
excess-is m r h k =
    let square = abs-mul_le r r (2 ^ 28) (2 ^ 28) k k in
    let fr : FitsSigned w64 r = omega (arith, ints) in
    let fm : FitsSigned w64 m = omega (arith, ints) in
    let fs : FitsSigned w64 (r *ℤ r) = omega (arith, ints) in
    let fd : FitsSigned w64 (m -ℤ r *ℤ r) = omega (arith, ints) in
    record { fits = simp (to_z-of_z, fr, fm, fs) fd; is = simp (to_z-of_z, fr, fm, fs, fd) }

pub square-sign : (w : Vec3) → pos 0 ≤ℤ dot w w
square-sign w = rw (square-natural w) (omega (arith, ints))

-- what the test of the excess tells
pub excess-low : (m r : ℤ) → pos 0 ≤ℤ m → pos 0 ≤ℤ r → int_le (m -ℤ r *ℤ r) (pos 0) ≡ true → unsigned_abs m ≤ unsigned_abs r * unsigned_abs r
excess-low (pos m) (pos r) p q h = let le = from_le (pos m -ℤ pos r *ℤ pos r) (pos 0) h in omega (arith, ints)
excess-low (pos m) (negsuc r) p q h = absurd (omega (arith, ints))
excess-low (negsuc m) r p q h = absurd (omega (arith, ints))

pub record IsOutside (m r : ℤ) : Type 0 where
  pub farther : unsigned_abs r * unsigned_abs r < unsigned_abs m
  pub excess : unsigned_abs m ≡ unsigned_abs (m -ℤ r *ℤ r) + unsigned_abs r * unsigned_abs r

above : (a : ℤ) → int_le a (pos 0) ≡ false → pos 0 <ℤ a
above a h = grind (arith, ints)

pub excess-high : (m r : ℤ) → pos 0 ≤ℤ m → pos 0 ≤ℤ r → int_le (m -ℤ r *ℤ r) (pos 0) ≡ false → IsOutside m r
excess-high (pos m) (pos r) p q h = let lt = above (pos m -ℤ pos r *ℤ pos r) h in record { farther = omega (arith, ints); excess = omega (arith, ints) }
excess-high (pos m) (negsuc r) p q h = absurd (omega (arith, ints))
excess-high (negsuc m) r p q h = absurd (omega (arith, ints))

pub nearing : (b : ℤ) → int_le (pos 0) b ≡ false → b ≡ neg_ℤ (pos (unsigned_abs b))
nearing (pos n) h = absurd (grind (arith, ints, nat_tests))
nearing (negsuc n) h = refl

pub nearing-size : (b : ℤ) → int_le (pos 0) b ≡ false → 0 < unsigned_abs b
nearing-size (pos n) h = absurd (grind (arith, ints, nat_tests))
nearing-size (negsuc n) h = omega (arith, ints)

-- a vector's reach squared is at most the square of its length
pub reach-square : (w : Vec3) → reach w * reach w ≤ unsigned_abs (dot w w)
reach-square w = by_component (reach_attained w)
  where
    by_component : (reach w ≡ unsigned_abs w.x) ⊎ (reach w ≡ unsigned_abs w.y) ⊎ (reach w ≡ unsigned_abs w.z) → reach w * reach w ≤ unsigned_abs (dot w w)
    by_component (inl e) = rw (e, dot_self w) (omega arith)
    by_component (inr (inl e)) = rw (e, dot_self w) (omega arith)
    by_component (inr (inr e)) = rw (e, dot_self w) (omega arith)

-- where the scalar product with a vector is not zero, neither is the vector
pub moving : (m d : Vec3) → 0 < unsigned_abs (dot m d) → 0 < unsigned_abs (dot d d)
moving m d h = by_reach (le_or_below 0 (reach d))
  where
    by_reach : (0 < reach d) ⊎ (reach d ≤ 0) → 0 < unsigned_abs (dot d d)
    by_reach (inl some) = let square = mul-le-mul some some in omega (arith, reach-square d)
    by_reach (inr none) = let zero_reach : reach d ≡ 0 = omega arith in let size = rw zero_reach at (abs-dot m d) in absurd (omega arith)

-- a short direction comes nearer slowly
pub slow : (m d : Vec3) → reach m ≤ 2 ^ 30 + 2 ^ 28 → unsigned_abs (dot d d) < 65536 → unsigned_abs (dot m d) ≤ 2 ^ 42
slow m d h k = by_reach (le_or_below (reach d) 256)
  where
    by_reach : (reach d < 256) ⊎ (256 ≤ reach d) → unsigned_abs (dot m d) ≤ 2 ^ 42
    by_reach (inl short) =
        let within : reach d ≤ 256 = omega arith in
        let product = mul-le-mul h within in
        omega (arith, abs-dot m d)
    by_reach (inr long) = let square = mul-le-mul long long in absurd (omega (arith, reach-square d))
