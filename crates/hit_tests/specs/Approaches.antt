-- Where a ray enters a ball that it starts outside of and comes nearer to, by three whole numbers. With the way m from the ball's centre
-- to the ray's origin, the direction d and the radius r they are d . d, -(m . d) and m . m - r r.
use Rattle.std.specs.Prelude.{Option, ℕ, ◌+◌, ◌*◌, ◌^◌, ◌<◌, ◌≤◌, Bool, nat_le}
use Rattle.hit_tests.specs.declared.spheres.Approach.{Approach}
use Rattle.picture_model.specs.Depths.{farthest, first_from}

-- the ray's point at the depth number s lies in the ball
unfoldable pub is_inside : Approach → ℕ → Bool
is_inside a s = nat_le (a.square * s * s + 2 ^ 32 * a.excess) (131072 * a.toward * s)

-- the least depth number in the ball
unfoldable pub entry : Approach → Option ℕ
entry a = first_from (is_inside a) (farthest + 1) 0

-- the numbers of a ray and a ball within the limits: a ray of a short direction comes nearer slowly
pub record IsApproachWithin (a : Approach) : Type 0 where
  pub moving : 0 < a.square
  pub square : a.square ≤ 2 ^ 52
  pub toward : a.toward ≤ 2 ^ 58
  pub slow : a.square < 65536 → a.toward ≤ 2 ^ 42
  pub outside : 0 < a.excess
  pub excess : a.excess ≤ 2 ^ 63
