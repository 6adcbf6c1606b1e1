-- Boxes, and the hits of a ray inside them. A hit is the point o + (n / m) d of the ray for a fraction that is not negative; its
-- depth number is floor (65536 n / m), at most 2^32.
use Rattle.std.specs.Prelude.{Option, Some, None, ℕ, ◌*◌, ◌/◌, ◌^◌, ◌<◌, ◌≤◌, ◌≡◌, ℤ, pos, ◌+ℤ◌, ◌*ℤ◌, ◌≤ℤ◌}
use Rattle.fx_math.specs.declared.vectors.Vec3.{Vec3}
use Rattle.fx_math.specs.declared.vectors.Ray.{Ray}
use Rattle.box_tests.specs.declared.boxes.Box3.{Box3}

-- v is at most w on each axis
pub record AreBelow (v w : Vec3) : Type 0 where
  pub x : v.x ≤ℤ w.x
  pub y : v.y ≤ℤ w.y
  pub z : v.z ≤ℤ w.z

-- the points of box a lie in box b
pub record IsBoxIn (a b : Box3) : Type 0 where
  pub low : AreBelow b.lo a.lo
  pub high : AreBelow a.hi b.hi

-- on one axis, a ray from o along d is at n / m of its way between two planes, themselves included
pub record IsBetween (low high o d : ℤ) (n m : ℕ) : Type 0 where
  pub from : (low *ℤ pos m) ≤ℤ (o *ℤ pos m +ℤ pos n *ℤ d)
  pub to : (o *ℤ pos m +ℤ pos n *ℤ d) ≤ℤ (high *ℤ pos m)

-- the ray is inside the box at n / m of its way
pub record IsInside (b : Box3) (ray : Ray) (n m : ℕ) : Type 0 where
  pub some : 0 < m
  pub x : IsBetween b.lo.x b.hi.x ray.o.x ray.d.x n m
  pub y : IsBetween b.lo.y b.hi.y ray.o.y ray.d.y n m
  pub z : IsBetween b.lo.z b.hi.z ray.o.z ray.d.z n m

-- s is the depth number of a hit inside the box
pub record IsHitInside (b : Box3) (ray : Ray) (s : ℕ) : Type 0 where
  pub n : ℕ
  pub m : ℕ
  pub inside : IsInside b ray n m
  pub depth : s ≡ 65536 * n / m
  pub near : s ≤ 2 ^ 32

-- s is from the first to the second number
pub record IsFrom (low high s : ℕ) : Type 0 where
  pub least : low ≤ s
  pub most : s ≤ high

-- bounds of the depth numbers of all hits inside the box; none only where there is no such number
abbrev pub AreBounds : Option (ℕ × ℕ) → Box3 → Ray → Type 0
AreBounds None b ray = (s : ℕ) → IsHitInside b ray s → ⊥
AreBounds (Some (low, high)) b ray = (s : ℕ) → IsHitInside b ray s → IsFrom low high s
