-- Boxes that hold a shape.
use Rattle.std.specs.Prelude.{ℤ, ◌≤ℤ◌, ◌+ℤ◌, ◌-ℤ◌}
use Rattle.fx_math.specs.declared.vectors.Vec3.{Vec3}
use Rattle.fx_math.specs.declared.scene.Shape.{Shape}
use Rattle.fx_math.specs.declared.scene.Shape.TheVariants.{Triangle, Sphere}
use Rattle.box_tests.specs.declared.boxes.Box3.{Box3}
use Rattle.box_tests.specs.Boxes.{AreBelow}

-- the point lies in the box
pub record IsPointIn (b : Box3) (v : Vec3) : Type 0 where
  pub low : AreBelow b.lo v
  pub high : AreBelow v b.hi

-- on one axis, what reaches as far as the radius from the centre lies between the planes
pub record IsBallBetween (low high centre radius : ℤ) : Type 0 where
  pub from : low ≤ℤ (centre -ℤ radius)
  pub to : (centre +ℤ radius) ≤ℤ high

pub record IsBallIn (b : Box3) (centre : Vec3) (radius : ℤ) : Type 0 where
  pub x : IsBallBetween b.lo.x b.hi.x centre.x radius
  pub y : IsBallBetween b.lo.y b.hi.y centre.y radius
  pub z : IsBallBetween b.lo.z b.hi.z centre.z radius

pub record AreCornersIn (box : Box3) (a b c : Vec3) : Type 0 where
  pub first : IsPointIn box a
  pub second : IsPointIn box b
  pub third : IsPointIn box c

-- the box holds all points of the shape
abbrev pub IsHolding : Box3 → Shape → Type 0
IsHolding b (Triangle a1 a2 a3) = AreCornersIn b a1 a2 a3
IsHolding b (Sphere centre radius) = IsBallIn b centre radius
