-- A hit with a shape is a hit inside each box that holds the shape.
use Rattle.std.proofs.Common.{◌≡◌, ℕ, ◌+◌, ◌-◌, ◌*◌, ◌/◌, ◌<◌, ◌≤◌, ℤ, pos, negsuc, ◌+ℤ◌, ◌-ℤ◌, ◌*ℤ◌, ◌≤ℤ◌, ◌<ℤ◌, unsigned_abs, Some, arith, refl}
use Rattle.std.proofs.lemmas.Int.{ints}
use Rattle.std.proofs.Math.Nat.{div-lt_iff_lt-mul, le-div_iff_mul-le}
use Rattle.fx_math.proofs.SquareRoots.{at_most_of_square}
use Rattle.fx_math.specs.Vec3.{add, dot, sub, times}
use Rattle.fx_math.specs.declared.scene.Shape.{Shape}
use Rattle.fx_math.specs.declared.scene.Shape.TheVariants.{Triangle, Sphere}
use Rattle.fx_math.specs.declared.vectors.Ray.{Ray}
use Rattle.fx_math.specs.declared.vectors.Vec3.{Vec3}
use Rattle.box_tests.proofs.Nesting.{box_in-trans, times_le}
use Rattle.box_tests.specs.Boxes.{IsBetween, IsBoxIn, IsHitInside}
use Rattle.box_tests.specs.declared.boxes.Box3.{Box3}
use Rattle.picture_model.proofs.DepthLaws.{depth-some}
use Rattle.picture_model.proofs.Spheres.{from_le}
use Rattle.picture_model.specs.Depths.{IsCrossedAt, IsEnteredAt, crossing, depth, distance_at, from_centre, is_in_ball, turned}
use Rattle.picture_model.specs.Limits.{IsShapeWithin}
use Rattle.picture_model.specs.declared.depths.Crossing.{Crossing}
use Rattle.ray_kernel.proofs.Corners.{between_corners, swap}
use Rattle.ray_kernel.proofs.Crossings.{Meets, meets_x, meets_y, meets_z}
use Rattle.ray_kernel.specs.Shapes.{AreCornersIn, IsBallBetween, IsBallIn, IsHolding}

-- ---- triangles
-- the fractions of a crossing as naturals: the ray's way n, and the weights of the three corners
record Weights (c : Crossing) (n r p q : ℕ) : Type 0 where
  det : c.det ≡ pos (r + p + q)
  way : c.t ≡ pos n
  second : c.p ≡ pos p
  third : c.q ≡ pos q
  some : 0 < r + p + q

whole : (z : ℤ) → pos 0 ≤ℤ z → z ≡ pos (unsigned_abs z)
whole z h = omega (arith, ints)

rest_is : (det p q : ℤ) → pos 0 <ℤ det → pos 0 ≤ℤ p → pos 0 ≤ℤ q → (p +ℤ q) ≤ℤ det →
    det ≡ pos (unsigned_abs det - unsigned_abs p - unsigned_abs q + unsigned_abs p + unsigned_abs q)
rest_is det p q a b c d = omega (arith, ints)

rest_some : (det p q : ℤ) → pos 0 <ℤ det → 0 < unsigned_abs det - unsigned_abs p - unsigned_abs q + unsigned_abs p + unsigned_abs q
rest_some det p q a = omega (arith, ints)

weights : (c : Crossing) (s : ℕ) → IsCrossedAt c s →
    Weights c (unsigned_abs c.t) (unsigned_abs c.det - unsigned_abs c.p - unsigned_abs c.q) (unsigned_abs c.p) (unsigned_abs c.q)
weights c s at = record {
  det = rest_is c.det c.p c.q at.not_parallel at.first at.second at.third;
  way = whole c.t at.ahead;
  second = whole c.p at.first;
  third = whole c.q at.second;
  some = rest_some c.det c.p c.q at.not_parallel;
}

on_axis : (c : Crossing) (d e f t : ℤ) (n r p q : ℕ) → Weights c n r p q → Meets c d e f t → t *ℤ pos (r + p + q) +ℤ d *ℤ pos n ≡ e *ℤ pos p +ℤ f *ℤ pos q
on_axis c d e f t n r p q w h = rw (w.det, w.way, w.second, w.third) at h

naturals_le : (s m n : ℕ) → (pos s *ℤ pos m) ≤ℤ (pos 65536 *ℤ pos n) → s * m ≤ 65536 * n
naturals_le s m n h = omega (arith, ints)

naturals_lt : (s m n : ℕ) → (pos 65536 *ℤ pos n) <ℤ (pos (s + 1) *ℤ pos m) → 65536 * n < (s + 1) * m
naturals_lt s m n h = omega (arith, ints)

quotient_is : (s n m : ℕ) → 0 < m → s * m ≤ 65536 * n → 65536 * n < (s + 1) * m → s ≡ 65536 * n / m
quotient_is s n m some low high =
    let l = (le-div_iff_mul-le some).1 low in
    let h = (div-lt_iff_lt-mul some).1 high in
    omega arith

crossed_depth : (c : Crossing) (s n r p q : ℕ) → Weights c n r p q → IsCrossedAt c s → s ≡ 65536 * n / (r + p + q)
crossed_depth c s n r p q w at =
    quotient_is s n (r + p + q) w.some (naturals_le s (r + p + q) n (rw (w.det, w.way) at at.reached)) (naturals_lt s (r + p + q) n (rw (w.det, w.way) at at.not_passed))

triangle_by : (b : Box3) (ray : Ray) (a1 a2 a3 : Vec3) (s n r p q : ℕ) → AreCornersIn b a1 a2 a3 → Weights (turned (crossing ray a1 a2 a3)) n r p q → IsCrossedAt (turned (crossing ray a1 a2 a3)) s → IsHitInside b ray s
unfolding sub
triangle_by b ray a1 a2 a3 s n r p q holds w at =
    let c = turned (crossing ray a1 a2 a3) in
    record {
      n = n;
      m = r + p + q;
      inside = record {
        some = w.some;
        x = between_corners a1.x a2.x a3.x ray.o.x ray.d.x b.lo.x b.hi.x n r p q (on_axis c ray.d.x (a2.x -ℤ a1.x) (a3.x -ℤ a1.x) (ray.o.x -ℤ a1.x) n r p q w (meets_x ray a1 a2 a3)) holds.first.low.x holds.second.low.x holds.third.low.x holds.first.high.x holds.second.high.x holds.third.high.x;
        y = between_corners a1.y a2.y a3.y ray.o.y ray.d.y b.lo.y b.hi.y n r p q (on_axis c ray.d.y (a2.y -ℤ a1.y) (a3.y -ℤ a1.y) (ray.o.y -ℤ a1.y) n r p q w (meets_y ray a1 a2 a3)) holds.first.low.y holds.second.low.y holds.third.low.y holds.first.high.y holds.second.high.y holds.third.high.y;
        z = between_corners a1.z a2.z a3.z ray.o.z ray.d.z b.lo.z b.hi.z n r p q (on_axis c ray.d.z (a2.z -ℤ a1.z) (a3.z -ℤ a1.z) (ray.o.z -ℤ a1.z) n r p q w (meets_z ray a1 a2 a3)) holds.first.low.z holds.second.low.z holds.third.low.z holds.first.high.z holds.second.high.z holds.third.high.z;
      };
      depth = crossed_depth c s n r p q w at;
      near = at.near;
    }

-- the corners of a triangle in a box round boxes of its points
pub corners_in : (a b c : Vec3) (two three : Box3) → IsBoxIn (record { lo = a; hi = a }) two → IsBoxIn (record { lo = b; hi = b }) two → IsBoxIn two three →
    IsBoxIn (record { lo = c; hi = c }) three → AreCornersIn three a b c
corners_in a b c two three p q r s =
    let first = box_in-trans (record { lo = a; hi = a }) two three p r in
    let second = box_in-trans (record { lo = b; hi = b }) two three q r in
    record {
      first = record { low = first.low; high = first.high };
      second = record { low = second.low; high = second.high };
      third = record { low = s.low; high = s.high };
    }

-- ---- spheres
square_is : (g : ℤ) → g *ℤ g ≡ pos (unsigned_abs g * unsigned_abs g)
square_is (pos a) = refl
square_is (negsuc a) = refl

record AreWithin (g h k : ℤ) (w : ℕ) : Type 0 where
  x : unsigned_abs g ≤ w
  y : unsigned_abs h ≤ w
  z : unsigned_abs k ≤ w

squares : (a b c w : ℕ) → (pos (a * a) +ℤ pos (b * b) +ℤ pos (c * c)) ≤ℤ (pos (w * w)) → a * a + b * b + c * c ≤ w * w
squares a b c w h = omega (arith, ints)

within_root : (g h k w : ℤ) → (g *ℤ g +ℤ h *ℤ h +ℤ k *ℤ k) ≤ℤ (w *ℤ w) → AreWithin g h k (unsigned_abs w)
within_root g h k w le =
    let sum = squares (unsigned_abs g) (unsigned_abs h) (unsigned_abs k) (unsigned_abs w) (rw (square_is g, square_is h, square_is k, square_is w) at le) in
    record {
      x = at_most_of_square (unsigned_abs g) (unsigned_abs w) (omega arith);
      y = at_most_of_square (unsigned_abs h) (unsigned_abs w) (omega arith);
      z = at_most_of_square (unsigned_abs k) (unsigned_abs w) (omega arith);
    }

ball_axis : (low high centre radius o d : ℤ) (s : ℕ) → pos 0 ≤ℤ radius → IsBallBetween low high centre radius →
    unsigned_abs ((o -ℤ centre) *ℤ pos 65536 +ℤ d *ℤ pos s) ≤ unsigned_abs (pos 65536 *ℤ radius) → IsBetween low high o d s 65536
ball_axis low high centre radius o d s sign holds within =
    let l = times_le low (centre -ℤ radius) 65536 holds.from in
    let h = times_le (centre +ℤ radius) high 65536 holds.to in
    let w = swap d s in
    record { from = omega (arith, ints); to = omega (arith, ints) }

sphere_by : (b : Box3) (ray : Ray) (centre : Vec3) (radius : ℤ) (s : ℕ) → pos 0 ≤ℤ radius → IsBallIn b centre radius → IsEnteredAt ray centre radius s → IsHitInside b ray s
unfolding is_in_ball distance_at from_centre dot add times sub
sphere_by b ray centre radius s sign holds at =
    let inside = within_root (from_centre ray centre s).x (from_centre ray centre s).y (from_centre ray centre s).z (pos 65536 *ℤ radius) (from_le _ _ at.inside) in
    record {
      n = s;
      m = 65536;
      inside = record {
        some = omega arith;
        x = ball_axis b.lo.x b.hi.x centre.x radius ray.o.x ray.d.x s sign holds.x inside.x;
        y = ball_axis b.lo.y b.hi.y centre.y radius ray.o.y ray.d.y s sign holds.y inside.y;
        z = ball_axis b.lo.z b.hi.z centre.z radius ray.o.z ray.d.z s sign holds.z inside.z;
      };
      depth = omega arith;
      near = at.near;
    }

pub hit_inside : (b : Box3) (ray : Ray) (shape : Shape) (s : ℕ) → IsShapeWithin shape → IsHolding b shape → depth ray shape ≡ Some s → IsHitInside b ray s
hit_inside b ray (Triangle a1 a2 a3) s within holds found =
    let at = depth-some ray (Triangle a1 a2 a3) s found in
    triangle_by b ray a1 a2 a3 s _ _ _ _ holds (weights _ s at) at
hit_inside b ray (Sphere centre radius) s within holds found = sphere_by b ray centre radius s within.size.from holds (depth-some ray (Sphere centre radius) s found)
