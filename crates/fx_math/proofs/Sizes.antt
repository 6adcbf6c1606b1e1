-- How large sums and products of whole numbers and of vectors grow.
use Rattle.std.proofs.Common.{◌≡◌, ℕ, suc, ◌+◌, ◌*◌, ◌/◌, ◌<◌, ◌≤◌, ℤ, pos, negsuc, neg_ℤ, int_div, ◌⊎◌, inl, inr, refl, ◌+ℤ◌, ◌-ℤ◌, ◌*ℤ◌, unsigned_abs, arith, ap, ◌∙◌}
use Rattle.std.proofs.lemmas.Int.{ints, unsigned_abs-mul}
use Rattle.std.specs.Int.{int_div_euclid}
use Rattle.std.proofs.Math.Nat.{mul-le-mul, mul-le-mul_right, div-mul-le_self}
use Rattle.std.proofs.lemmas.Nat.{le-div}
use Rattle.fx_math.specs.declared.vectors.Vec3.{Vec3}
use Rattle.fx_math.specs.Vec3.{reach, add, sub, neg, times, scaled_down, truncated, dot, cross}

abbrev made : ℤ → ℤ → ℤ → Vec3
made x y z = record { x = x; y = y; z = z }

-- two vectors with the same components
pub same_vec : (v w : Vec3) → v.x ≡ w.x → v.y ≡ w.y → v.z ≡ w.z → v ≡ w
same_vec v w e f g = ap (λ x. made x v.y v.z) e ∙ ap (λ y. made w.x y v.z) f ∙ ap (λ z. made w.x w.y z) g

-- each component is within the reach
pub abs_x : (v : Vec3) → unsigned_abs v.x ≤ reach v
unfolding reach
abs_x v = omega arith

pub abs_y : (v : Vec3) → unsigned_abs v.y ≤ reach v
unfolding reach
abs_y v = omega arith

pub abs_z : (v : Vec3) → unsigned_abs v.z ≤ reach v
unfolding reach
abs_z v = omega arith

-- components within m make a reach within m
pub reach_within : (v : Vec3) (m : ℕ) → unsigned_abs v.x ≤ m → unsigned_abs v.y ≤ m → unsigned_abs v.z ≤ m → reach v ≤ m
unfolding reach
reach_within v m x y z = omega arith

pub abs-add : (a b : ℤ) → unsigned_abs (a +ℤ b) ≤ unsigned_abs a + unsigned_abs b
abs-add a b = omega (arith, ints)

pub abs-sub : (a b : ℤ) → unsigned_abs (a -ℤ b) ≤ unsigned_abs a + unsigned_abs b
abs-sub a b = omega (arith, ints)

pub abs-mul_le : (a b : ℤ) (m n : ℕ) → unsigned_abs a ≤ m → unsigned_abs b ≤ n → unsigned_abs (a *ℤ b) ≤ m * n
abs-mul_le a b m n p q = rw (unsigned_abs-mul a b) (mul-le-mul p q)

pub reach-sub : (a b : Vec3) → reach (sub a b) ≤ reach a + reach b
unfolding sub
reach-sub a b = reach_within (sub a b) _ (omega (arith, abs-sub a.x b.x, abs_x a, abs_x b)) (omega (arith, abs-sub a.y b.y, abs_y a, abs_y b)) (omega (arith, abs-sub a.z b.z, abs_z a, abs_z b))

pub abs-dot : (a b : Vec3) → unsigned_abs (dot a b) ≤ 3 * (reach a * reach b)
unfolding dot
abs-dot a b =
    let x = abs-mul_le a.x b.x _ _ (abs_x a) (abs_x b) in
    let y = abs-mul_le a.y b.y _ _ (abs_y a) (abs_y b) in
    let z = abs-mul_le a.z b.z _ _ (abs_z a) (abs_z b) in
    let s = abs-add (a.x *ℤ b.x) (a.y *ℤ b.y) in
    let t = abs-add (a.x *ℤ b.x +ℤ a.y *ℤ b.y) (a.z *ℤ b.z) in
    omega arith

abs-minor : (a b c d : ℤ) (m n : ℕ) → unsigned_abs a ≤ m → unsigned_abs b ≤ n → unsigned_abs c ≤ m → unsigned_abs d ≤ n → unsigned_abs (a *ℤ b -ℤ c *ℤ d) ≤ 2 * (m * n)
abs-minor a b c d m n p q r s =
    let x = abs-mul_le a b m n p q in
    let y = abs-mul_le c d m n r s in
    let t = abs-sub (a *ℤ b) (c *ℤ d) in
    omega arith

pub reach-cross : (a b : Vec3) → reach (cross a b) ≤ 2 * (reach a * reach b)
unfolding cross
reach-cross a b =
    reach_within (cross a b) _
    (abs-minor a.y b.z a.z b.y _ _ (abs_y a) (abs_z b) (abs_z a) (abs_y b))
    (abs-minor a.z b.x a.x b.z _ _ (abs_z a) (abs_x b) (abs_x a) (abs_z b))
    (abs-minor a.x b.y a.y b.x _ _ (abs_x a) (abs_y b) (abs_y a) (abs_x b))

pub reach-add : (a b : Vec3) → reach (add a b) ≤ reach a + reach b
unfolding add
reach-add a b =
    reach_within (add a b) _
    (omega (arith, abs-add a.x b.x, abs_x a, abs_x b))
    (omega (arith, abs-add a.y b.y, abs_y a, abs_y b))
    (omega (arith, abs-add a.z b.z, abs_z a, abs_z b))

-- some component reaches as far as the vector
pub reach_attained : (v : Vec3) → (reach v ≡ unsigned_abs v.x) ⊎ (reach v ≡ unsigned_abs v.y) ⊎ (reach v ≡ unsigned_abs v.z)
unfolding reach
reach_attained v = grind arith

-- a vector whose components grow with those of v by a monotone function has the reach that grows so
pub reach-by : (v w : Vec3) (f : ℕ → ℕ) → ((m n : ℕ) → m ≤ n → f m ≤ f n) →
    unsigned_abs w.x ≡ f (unsigned_abs v.x) → unsigned_abs w.y ≡ f (unsigned_abs v.y) → unsigned_abs w.z ≡ f (unsigned_abs v.z) → reach w ≡ f (reach v)
reach-by v w f grows x y z = antisymmetric below (above (reach_attained v))
  where
    antisymmetric : reach w ≤ f (reach v) → f (reach v) ≤ reach w → reach w ≡ f (reach v)
    antisymmetric p q = omega arith

    below : reach w ≤ f (reach v)
    below = reach_within w _ (rw x (grows _ _ (abs_x v))) (rw y (grows _ _ (abs_y v))) (rw z (grows _ _ (abs_z v)))

    above : (reach v ≡ unsigned_abs v.x) ⊎ (reach v ≡ unsigned_abs v.y) ⊎ (reach v ≡ unsigned_abs v.z) → f (reach v) ≤ reach w
    above (inl e) = rw (e, ← x) (abs_x w)
    above (inr (inl e)) = rw (e, ← y) (abs_y w)
    above (inr (inr e)) = rw (e, ← z) (abs_z w)

abs-neg : (a : ℤ) → unsigned_abs (neg_ℤ a) ≡ unsigned_abs a
abs-neg a = omega (arith, ints)

pub reach-neg : (v : Vec3) → reach (neg v) ≡ reach v
unfolding neg
reach-neg v = reach-by v (neg v) (λ n. n) (λ m n h. h) (abs-neg v.x) (abs-neg v.y) (abs-neg v.z)

pub reach-times : (v : Vec3) (s : ℤ) → reach (times v s) ≡ reach v * unsigned_abs s
unfolding times
reach-times v s = reach-by v (times v s) (λ n. n * unsigned_abs s) (λ m n h. mul-le-mul_right (unsigned_abs s) h) (unsigned_abs-mul v.x s) (unsigned_abs-mul v.y s) (unsigned_abs-mul v.z s)

pub abs-int_div : (a : ℤ) (d : ℕ) → unsigned_abs (int_div a (pos d)) ≡ unsigned_abs a / d
abs-int_div (pos a) d = refl
abs-int_div (negsuc a) d = abs-neg (pos (suc a / d))

div-grows : (d m n : ℕ) → 0 < d → m ≤ n → m / d ≤ n / d
div-grows d m n positive h = le-div (m / d) n d positive (omega (arith, div-mul-le_self m d))

pub reach-truncated : (v : Vec3) (d : ℕ) → 0 < d → reach (truncated v d) ≡ reach v / d
unfolding truncated
reach-truncated v d positive = reach-by v (truncated v d) (λ n. n / d) (λ m n h. div-grows d m n positive h) (abs-int_div v.x d) (abs-int_div v.y d) (abs-int_div v.z d)

abs-floor : (a : ℤ) → unsigned_abs (int_div_euclid a (pos 65536)) ≤ (unsigned_abs a + 65535) / 65536
abs-floor (pos a) = omega arith
abs-floor (negsuc a) = omega arith

pub reach-scaled_down : (v : Vec3) → reach (scaled_down v) ≤ (reach v + 65535) / 65536
unfolding scaled_down
reach-scaled_down v =
    reach_within (scaled_down v) _
    (omega (arith, abs-floor v.x, abs_x v))
    (omega (arith, abs-floor v.y, abs_y v))
    (omega (arith, abs-floor v.z, abs_z v))
