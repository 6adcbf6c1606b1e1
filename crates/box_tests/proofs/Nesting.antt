-- What is inside a box is inside each box round it.
use Rattle.std.proofs.Common.{◌≡◌, ℕ, ℤ, pos, ◌+ℤ◌, ◌-ℤ◌, ◌*ℤ◌, ◌≤ℤ◌, unsigned_abs, arith}
use Rattle.std.proofs.lemmas.Int.{ints}
use Rattle.fx_math.specs.declared.vectors.Ray.{Ray}
use Rattle.fx_math.specs.declared.vectors.Vec3.{Vec3}
use Rattle.box_tests.specs.declared.boxes.Box3.{Box3}
use Rattle.box_tests.specs.Boxes.{AreBelow, IsBetween, IsBoxIn, IsHitInside, IsInside}
use Rattle.box_tests.proofs.Ways.{spread}

rise : (x y : ℤ) → x ≤ℤ y → y ≡ x +ℤ pos (unsigned_abs (y -ℤ x))
rise x y h = omega (arith, ints)

times_le_by : (x y : ℤ) (a m : ℕ) → y ≡ x +ℤ pos a → (x *ℤ pos m) ≤ℤ (y *ℤ pos m)
times_le_by x y a m e = let s = spread x a m in rw (e, s) (omega (arith, ints))

pub times_le : (x y : ℤ) (m : ℕ) → x ≤ℤ y → (x *ℤ pos m) ≤ℤ (y *ℤ pos m)
times_le x y m h = times_le_by x y (unsigned_abs (y -ℤ x)) m (rise x y h)

le_trans : (x y z : ℤ) → x ≤ℤ y → y ≤ℤ z → x ≤ℤ z
le_trans x y z p q = omega (arith, ints)

pub between_wider : (low high bottom top o d : ℤ) (n m : ℕ) → bottom ≤ℤ low → high ≤ℤ top → IsBetween low high o d n m → IsBetween bottom top o d n m
between_wider low high bottom top o d n m p q is = record {
  from = le_trans _ _ _ (times_le bottom low m p) is.from;
  to = le_trans _ _ _ is.to (times_le high top m q);
}

pub inside_wider : (a b : Box3) (ray : Ray) (n m : ℕ) → IsBoxIn a b → IsInside a ray n m → IsInside b ray n m
inside_wider a b ray n m within is = record {
  some = is.some;
  x = between_wider _ _ _ _ _ _ n m within.low.x within.high.x is.x;
  y = between_wider _ _ _ _ _ _ n m within.low.y within.high.y is.y;
  z = between_wider _ _ _ _ _ _ n m within.low.z within.high.z is.z;
}

pub hit_wider : (a b : Box3) (ray : Ray) (s : ℕ) → IsBoxIn a b → IsHitInside a ray s → IsHitInside b ray s
hit_wider a b ray s within hit = record { n = hit.n; m = hit.m; inside = inside_wider a b ray hit.n hit.m within hit.inside; depth = hit.depth; near = hit.near }

below_trans : (u v w : Vec3) → AreBelow u v → AreBelow v w → AreBelow u w
below_trans u v w p q = record { x = le_trans _ _ _ p.x q.x; y = le_trans _ _ _ p.y q.y; z = le_trans _ _ _ p.z q.z }

pub box_in-trans : (a b c : Box3) → IsBoxIn a b → IsBoxIn b c → IsBoxIn a c
box_in-trans a b c p q = record { low = below_trans _ _ _ q.low p.low; high = below_trans _ _ _ p.high q.high }

below_refl : (v : Vec3) → AreBelow v v
below_refl v = record { x = omega (arith, ints); y = omega (arith, ints); z = omega (arith, ints) }

pub box_in-refl : (b : Box3) → IsBoxIn b b
box_in-refl b = record { low = below_refl b.lo; high = below_refl b.hi }
