-- Where a ray meets a triangle or a sphere. A hit at the point o + t d of the ray has the depth number floor (65536 t), at most 2^32.
-- `IsDepth` says which number that is, by conditions on whole numbers; `depth` finds it.
use Rattle.std.specs.Prelude.{Option, Some, None, ℕ, zero, suc, ◌+◌, ◌*◌, ◌/◌, ◌^◌, ◌<◌, ◌≤◌, ℤ, pos, neg_ℤ, ◌+ℤ◌, ◌*ℤ◌, ◌≤ℤ◌, ◌<ℤ◌, int_lt, int_le, unsigned_abs, Bool, true, false, ◌&&◌, ◌||◌, nat_le, if◌then◌else◌, IsTrue, ◌≡◌}
use Rattle.fx_math.specs.Vec3.{add, cross, dot, sub, times}
use Rattle.fx_math.specs.declared.vectors.Vec3.{Vec3}
use Rattle.fx_math.specs.declared.vectors.Ray.{Ray}
use Rattle.fx_math.specs.declared.scene.Shape.{Shape}
use Rattle.picture_model.specs.declared.depths.Crossing.{Crossing}
use Rattle.fx_math.specs.declared.scene.Shape.TheVariants.{Triangle, Sphere}

-- the greatest depth number
abbrev pub farthest : ℕ
farthest = 2 ^ 32

-- the crossing of the ray with the plane of the triangle a, b, c
unfoldable pub crossing : Ray → Vec3 → Vec3 → Vec3 → Crossing
crossing ray a b c =
    let e1 = sub b a in
    let e2 = sub c a in
    let from_a = sub ray.o a in
    record {
      det = neg_ℤ (dot ray.d (cross e1 e2));
      t = dot from_a (cross e1 e2);
      p = neg_ℤ (dot ray.d (cross from_a e2));
      q = neg_ℤ (dot ray.d (cross e1 from_a));
    }

-- the same fractions over a denominator that is not negative
unfoldable pub turned : Crossing → Crossing
turned c = if int_lt c.det (pos 0)
    then record { det = neg_ℤ c.det; t = neg_ℤ c.t; p = neg_ℤ c.p; q = neg_ℤ c.q }
    else c

-- the crossing lies in the triangle, its edges included, and not behind the ray's origin; s is its depth number
pub record IsCrossedAt (c : Crossing) (s : ℕ) : Type 0 where
  pub not_parallel : pos 0 <ℤ c.det
  pub first : pos 0 ≤ℤ c.p
  pub second : pos 0 ≤ℤ c.q
  pub third : (c.p +ℤ c.q) ≤ℤ c.det
  pub ahead : pos 0 ≤ℤ c.t
  pub reached : (pos s *ℤ c.det) ≤ℤ (pos 65536 *ℤ c.t)
  pub not_passed : (pos 65536 *ℤ c.t) <ℤ (pos (s + 1) *ℤ c.det)
  pub near : s ≤ farthest

-- 65536 times the way from the centre to the ray's point at the depth number s
unfoldable pub from_centre : Ray → Vec3 → ℕ → Vec3
from_centre ray centre s = add (times (sub ray.o centre) (pos 65536)) (times ray.d (pos s))

-- the square of its length
unfoldable pub distance_at : Ray → Vec3 → ℕ → ℤ
distance_at ray centre s = dot (from_centre ray centre s) (from_centre ray centre s)

-- the ray's point at s lies in the ball of this radius, its surface included
unfoldable pub is_in_ball : Ray → Vec3 → ℤ → ℕ → Bool
is_in_ball ray centre radius s = int_le (distance_at ray centre s) (pos 65536 *ℤ radius *ℤ (pos 65536 *ℤ radius))

-- the ray's point at s lies in the ball, or the next one is no nearer to its centre: what a search by halving may ask, since from the
-- first such point on all are such points
unfoldable pub is_settled : Ray → Vec3 → ℤ → ℕ → Bool
is_settled ray centre radius s = is_in_ball ray centre radius s || int_le (distance_at ray centre s) (distance_at ray centre (s + 1))

-- the ray enters the ball at s: no point before it lies in the ball
pub record IsEnteredAt (ray : Ray) (centre : Vec3) (radius : ℤ) (s : ℕ) : Type 0 where
  pub inside : IsTrue (is_in_ball ray centre radius s)
  pub before : (k : ℕ) → k < s → is_in_ball ray centre radius k ≡ false
  pub near : s ≤ farthest

-- s is the depth number of the ray's hit with the shape
abbrev pub IsDepth : Ray → Shape → ℕ → Type 0
IsDepth ray (Triangle a b c) s = IsCrossedAt (turned (crossing ray a b c)) s
IsDepth ray (Sphere centre radius) s = IsEnteredAt ray centre radius s

-- the crossing lies in the triangle and not behind the ray's origin, as a test
unfoldable pub is_crossed : Crossing → Bool
is_crossed c =
    int_lt (pos 0) c.det && int_le (pos 0) c.t && int_le (pos 0) c.p && int_le (pos 0) c.q && int_le (c.p +ℤ c.q) c.det

-- floor (65536 t), where it is not too far
unfoldable pub crossing_depth : Crossing → Option ℕ
crossing_depth c =
    let s = 65536 * unsigned_abs c.t / unsigned_abs c.det in
    if is_crossed c && nat_le s farthest then Some s else None

-- the least number from k on that passes the test, of n numbers
unfoldable pub first_from : (ℕ → Bool) → ℕ → ℕ → Option ℕ
first_from test zero k = None
first_from test (suc n) k = elim (test k) [ true ↦ Some k | false ↦ first_from test n (suc k) ]

-- the least depth number in the ball
unfoldable pub sphere_depth : Ray → Vec3 → ℤ → Option ℕ
sphere_depth ray centre radius = first_from (is_in_ball ray centre radius) (farthest + 1) 0

-- the depth number of the ray's hit with the shape, if it is hit
abbrev pub depth : Ray → Shape → Option ℕ
depth ray (Triangle a b c) = crossing_depth (turned (crossing ray a b c))
depth ray (Sphere centre radius) = sphere_depth ray centre radius
