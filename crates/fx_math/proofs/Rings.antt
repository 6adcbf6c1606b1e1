-- Ring identities on whole numbers. A whole number is told as a difference u - v of two naturals, so that an equation
-- of sums and products becomes one of naturals, which `omega` multiplies out. At a sum, a difference or a product of
-- such numbers a law below tells the new difference, and `same_by` ends.
use Rattle.std.proofs.Common.{◌≡◌, ℕ, ◌+◌, ◌*◌, ℤ, pos, ◌+ℤ◌, ◌-ℤ◌, ◌*ℤ◌, neg_ℤ, arith, ap}
use Rattle.std.proofs.lemmas.Int.{ints}
use borrow.Author.Differences.{up, down, product_is, same_in}
use Rattle.fx_math.specs.declared.vectors.Vec3.{Vec3}
use Rattle.fx_math.specs.Vec3.{add, sub, neg, times, dot, cross}

-- z is u - v
pub record Is (z : ℤ) (u v : ℕ) : Type 0 where
  pub is : up z + v ≡ down z + u

-- a number is the difference of its two parts
pub Is-parts : (a : ℤ) → Is a (up a) (down a)
Is-parts a = record { is = omega arith }

-- a natural has nothing to take away
pub Is-natural : (n : ℕ) → Is (pos n) n 0
Is-natural n = record { is = omega arith }

pub Is-add : (a b : ℤ) (u v s t : ℕ) → Is a u v → Is b s t → Is (a +ℤ b) (u + s) (v + t)
Is-add a b u v s t p q = record { is = omega (arith, ints, p.is, q.is) }

pub Is-sub : (a b : ℤ) (u v s t : ℕ) → Is a u v → Is b s t → Is (a -ℤ b) (u + t) (v + s)
Is-sub a b u v s t p q = record { is = omega (arith, ints, p.is, q.is) }

pub Is-neg : (a : ℤ) (u v : ℕ) → Is a u v → Is (neg_ℤ a) v u
Is-neg a u v p = record { is = omega (arith, ints, p.is) }

product_parts : (a d b e u v s t : ℕ) → a + v ≡ d + u → b + t ≡ e + s → a * b + d * e + (u * t + v * s) ≡ a * e + d * b + (u * s + v * t)
product_parts a d b e u v s t p q =
    let at_b = ap (λ (n : ℕ). n * b) p in
    let at_e = ap (λ (n : ℕ). n * e) p in
    let at_u = ap (λ (n : ℕ). n * u) q in
    let at_v = ap (λ (n : ℕ). n * v) q in
    omega arith

pub Is-mul : (a b : ℤ) (u v s t : ℕ) → Is a u v → Is b s t → Is (a *ℤ b) (u * s + v * t) (u * t + v * s)
Is-mul a b u v s t p q =
    let split = product_is a b in
    let equal = product_parts (up a) (down a) (up b) (down b) u v s t p.is q.is in
    record { is = omega (arith, split.0, split.1, equal) }

-- two differences that agree as naturals are one number
pub same_by : (a b : ℤ) (u v s t : ℕ) → Is a u v → Is b s t → u + t ≡ v + s → a ≡ b
same_by a b u v s t p q e = same_in a b (omega (arith, p.is, q.is))

-- ---- distributivity
pub *ℤ-+ℤ : (a b c : ℤ) → a *ℤ (b +ℤ c) ≡ a *ℤ b +ℤ a *ℤ c
*ℤ-+ℤ a b c =
    same_by _ _ _ _ _ _
    (Is-mul a (b +ℤ c) _ _ _ _ (Is-parts a) (Is-add b c _ _ _ _ (Is-parts b) (Is-parts c)))
    (Is-add (a *ℤ b) (a *ℤ c) _ _ _ _ (Is-mul a b _ _ _ _ (Is-parts a) (Is-parts b)) (Is-mul a c _ _ _ _ (Is-parts a) (Is-parts c)))
    (omega arith)

pub *ℤ--ℤ : (a b c : ℤ) → a *ℤ (b -ℤ c) ≡ a *ℤ b -ℤ a *ℤ c
*ℤ--ℤ a b c =
    same_by _ _ _ _ _ _
    (Is-mul a (b -ℤ c) _ _ _ _ (Is-parts a) (Is-sub b c _ _ _ _ (Is-parts b) (Is-parts c)))
    (Is-sub (a *ℤ b) (a *ℤ c) _ _ _ _ (Is-mul a b _ _ _ _ (Is-parts a) (Is-parts b)) (Is-mul a c _ _ _ _ (Is-parts a) (Is-parts c)))
    (omega arith)

-- ---- vectors, told by their components
-- three naturals, one for each component
pub record Three : Type 0 where
  pub x : ℕ
  pub y : ℕ
  pub z : ℕ

-- each component of a is the difference of those of u and v
pub record Are (a : Vec3) (u v : Three) : Type 0 where
  pub x : Is a.x u.x v.x
  pub y : Is a.y u.y v.y
  pub z : Is a.z u.z v.z

abbrev pub ups : Vec3 → Three
ups a = record { x = up a.x; y = up a.y; z = up a.z }

abbrev pub downs : Vec3 → Three
downs a = record { x = down a.x; y = down a.y; z = down a.z }

abbrev pub sums : Three → Three → Three
sums u s = record { x = u.x + s.x; y = u.y + s.y; z = u.z + s.z }

abbrev pub multiples : Three → Three → ℕ → ℕ → Three
multiples u v s t = record { x = u.x * s + v.x * t; y = u.y * s + v.y * t; z = u.z * s + v.z * t }

abbrev pub minors : Three → Three → Three → Three → Three
minors u v s t = record {
  x = u.y * s.z + v.y * t.z + (u.z * t.y + v.z * s.y);
  y = u.z * s.x + v.z * t.x + (u.x * t.z + v.x * s.z);
  z = u.x * s.y + v.x * t.y + (u.y * t.x + v.y * s.x);
}

abbrev pub dots : Three → Three → Three → Three → ℕ
dots u v s t = u.x * s.x + v.x * t.x + (u.y * s.y + v.y * t.y) + (u.z * s.z + v.z * t.z)

pub Are-parts : (a : Vec3) → Are a (ups a) (downs a)
Are-parts a = record { x = Is-parts a.x; y = Is-parts a.y; z = Is-parts a.z }

pub Are-add : (a b : Vec3) (u v s t : Three) → Are a u v → Are b s t → Are (add a b) (sums u s) (sums v t)
unfolding add
Are-add a b u v s t p q = record {
  x = Is-add a.x b.x _ _ _ _ p.x q.x;
  y = Is-add a.y b.y _ _ _ _ p.y q.y;
  z = Is-add a.z b.z _ _ _ _ p.z q.z;
}

pub Are-sub : (a b : Vec3) (u v s t : Three) → Are a u v → Are b s t → Are (sub a b) (sums u t) (sums v s)
unfolding sub
Are-sub a b u v s t p q = record {
  x = Is-sub a.x b.x _ _ _ _ p.x q.x;
  y = Is-sub a.y b.y _ _ _ _ p.y q.y;
  z = Is-sub a.z b.z _ _ _ _ p.z q.z;
}

pub Are-neg : (a : Vec3) (u v : Three) → Are a u v → Are (neg a) v u
unfolding neg
Are-neg a u v p = record {
  x = Is-neg a.x _ _ p.x;
  y = Is-neg a.y _ _ p.y;
  z = Is-neg a.z _ _ p.z;
}

pub Are-times : (a : Vec3) (k : ℤ) (u v : Three) (s t : ℕ) → Are a u v → Is k s t → Are (times a k) (multiples u v s t) (multiples u v t s)
unfolding times
Are-times a k u v s t p q = record {
  x = Is-mul a.x k _ _ _ _ p.x q;
  y = Is-mul a.y k _ _ _ _ p.y q;
  z = Is-mul a.z k _ _ _ _ p.z q;
}

pub Are-cross : (a b : Vec3) (u v s t : Three) → Are a u v → Are b s t → Are (cross a b) (minors u v s t) (minors u v t s)
unfolding cross
Are-cross a b u v s t p q = record {
  x = Is-sub _ _ _ _ _ _ (Is-mul a.y b.z _ _ _ _ p.y q.z) (Is-mul a.z b.y _ _ _ _ p.z q.y);
  y = Is-sub _ _ _ _ _ _ (Is-mul a.z b.x _ _ _ _ p.z q.x) (Is-mul a.x b.z _ _ _ _ p.x q.z);
  z = Is-sub _ _ _ _ _ _ (Is-mul a.x b.y _ _ _ _ p.x q.y) (Is-mul a.y b.x _ _ _ _ p.y q.x);
}

pub Is-dot : (a b : Vec3) (u v s t : Three) → Are a u v → Are b s t → Is (dot a b) (dots u v s t) (dots u v t s)
unfolding dot
Is-dot a b u v s t p q =
    Is-add _ _ _ _ _ _
    (Is-add _ _ _ _ _ _ (Is-mul a.x b.x _ _ _ _ p.x q.x) (Is-mul a.y b.y _ _ _ _ p.y q.y))
    (Is-mul a.z b.z _ _ _ _ p.z q.z)

-- ---- scalar and vector products
pub dot_comm : (a b : Vec3) → dot a b ≡ dot b a
dot_comm a b =
    same_by _ _ _ _ _ _
    (Is-dot a b _ _ _ _ (Are-parts a) (Are-parts b))
    (Is-dot b a _ _ _ _ (Are-parts b) (Are-parts a))
    (omega arith)

pub dot-add : (a b c : Vec3) → dot a (add b c) ≡ dot a b +ℤ dot a c
dot-add a b c =
    same_by _ _ _ _ _ _
    (Is-dot a (add b c) _ _ _ _ (Are-parts a) (Are-add b c _ _ _ _ (Are-parts b) (Are-parts c)))
    (Is-add (dot a b) (dot a c) _ _ _ _ (Is-dot a b _ _ _ _ (Are-parts a) (Are-parts b)) (Is-dot a c _ _ _ _ (Are-parts a) (Are-parts c)))
    (omega arith)

pub dot-sub : (a b c : Vec3) → dot a (sub b c) ≡ dot a b -ℤ dot a c
dot-sub a b c =
    same_by _ _ _ _ _ _
    (Is-dot a (sub b c) _ _ _ _ (Are-parts a) (Are-sub b c _ _ _ _ (Are-parts b) (Are-parts c)))
    (Is-sub (dot a b) (dot a c) _ _ _ _ (Is-dot a b _ _ _ _ (Are-parts a) (Are-parts b)) (Is-dot a c _ _ _ _ (Are-parts a) (Are-parts c)))
    (omega arith)

pub dot-times : (a b : Vec3) (k : ℤ) → dot a (times b k) ≡ dot a b *ℤ k
dot-times a b k =
    same_by _ _ _ _ _ _
    (Is-dot a (times b k) _ _ _ _ (Are-parts a) (Are-times b k _ _ _ _ (Are-parts b) (Is-parts k)))
    (Is-mul (dot a b) k _ _ _ _ (Is-dot a b _ _ _ _ (Are-parts a) (Are-parts b)) (Is-parts k))
    (omega arith)

-- a turn of the three vectors keeps their triple product
pub triple_turn : (a b c : Vec3) → dot a (cross b c) ≡ dot b (cross c a)
triple_turn a b c =
    same_by _ _ _ _ _ _
    (Is-dot a (cross b c) _ _ _ _ (Are-parts a) (Are-cross b c _ _ _ _ (Are-parts b) (Are-parts c)))
    (Is-dot b (cross c a) _ _ _ _ (Are-parts b) (Are-cross c a _ _ _ _ (Are-parts c) (Are-parts a)))
    (omega arith)

-- and an exchange of two of them turns its sign
pub triple_exchange : (a b c : Vec3) → dot a (cross b c) ≡ neg_ℤ (dot b (cross a c))
triple_exchange a b c =
    same_by _ _ _ _ _ _
    (Is-dot a (cross b c) _ _ _ _ (Are-parts a) (Are-cross b c _ _ _ _ (Are-parts b) (Are-parts c)))
    (Is-neg (dot b (cross a c)) _ _ (Is-dot b (cross a c) _ _ _ _ (Are-parts b) (Are-cross a c _ _ _ _ (Are-parts a) (Are-parts c))))
    (omega arith)

-- the vector product is at right angles to both of its vectors
pub dot-cross_left : (a b : Vec3) → dot a (cross a b) ≡ pos 0
dot-cross_left a b =
    same_by _ _ _ _ 0 0
    (Is-dot a (cross a b) _ _ _ _ (Are-parts a) (Are-cross a b _ _ _ _ (Are-parts a) (Are-parts b)))
    (record { is = omega arith })
    (omega arith)

pub dot-cross_right : (a b : Vec3) → dot b (cross a b) ≡ pos 0
dot-cross_right a b =
    same_by _ _ _ _ 0 0
    (Is-dot b (cross a b) _ _ _ _ (Are-parts b) (Are-cross a b _ _ _ _ (Are-parts a) (Are-parts b)))
    (record { is = omega arith })
    (omega arith)
