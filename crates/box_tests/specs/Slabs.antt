-- A prepared ray, and its way through the slab between two planes across one axis.
use Rattle.std.specs.Prelude.{Option, Some, None, ℕ, ◌*◌, ◌/◌, ◌^◌, ◌<◌, ◌≤◌, ◌≡◌, ℤ, pos, neg_ℤ, ◌+ℤ◌, ◌<ℤ◌}
use Rattle.fx_math.specs.declared.vectors.Ray.{Ray}
use Rattle.box_tests.specs.declared.spans.Inverse.{Inverse}
use Rattle.box_tests.specs.declared.spans.Course.{Course}
use Rattle.box_tests.specs.declared.spans.Course.TheVariants.{Still, Up, Down}
use Rattle.box_tests.specs.declared.spans.Slab.{Slab}
use Rattle.box_tests.specs.declared.spans.Bounds.{Bounds}
use Rattle.box_tests.specs.Boxes.{IsBetween}

-- bounds of 2^48 / d
pub record IsInverse (inverse : Inverse) (d : ℕ) : Type 0 where
  pub below : inverse.below * d ≤ 2 ^ 48
  pub above : 2 ^ 48 ≤ inverse.above * d
  pub size : inverse.above ≤ 2 ^ 49

-- the course of a ray whose direction has the component d on an axis
abbrev pub IsCourse : Course → ℤ → Type 0
IsCourse Still d = d ≡ pos 0
IsCourse (Up inverse) d = (n : ℕ) × (d ≡ pos n) × IsInverse inverse n
IsCourse (Down inverse) d = (n : ℕ) × (d ≡ neg_ℤ (pos n)) × IsInverse inverse n

-- the courses of a ray on its three axes
pub record IsPrepared (ray : Ray) (along_x along_y along_z : Course) : Type 0 where
  pub x : IsCourse along_x ray.d.x
  pub y : IsCourse along_y ray.d.y
  pub z : IsCourse along_z ray.d.z

-- how far it is from one number up to another; none where that is lower
abbrev pub IsWayUp : Option ℕ → ℤ → ℤ → Type 0
IsWayUp None from to = to <ℤ from
IsWayUp (Some n) from to = to ≡ from +ℤ pos n

-- bounds of 65536 n / m where a ray that goes by d is in the slab at n / m of its way; none only where it never is
abbrev pub AreSlabBounds : Option Bounds → Slab → ℤ → Type 0
AreSlabBounds None slab d = (n m : ℕ) → 0 < m → IsBetween slab.low slab.high slab.origin d n m → ⊥
AreSlabBounds (Some b) slab d = (n m : ℕ) → 0 < m → IsBetween slab.low slab.high slab.origin d n m → 65536 * n / m ≤ 2 ^ 32 → (b.entry ≤ 65536 * n / m) × (65536 * n / m ≤ b.exit)
