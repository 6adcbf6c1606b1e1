-- What the light gathered in a pixel keeps to, so that one more hit, or the background, has room.
use Rattle.std.specs.Prelude.{ℕ, ◌≤◌}
use Rattle.picture_model.specs.declared.records.Blend.{Blend}
use Rattle.picture_model.specs.Limits.{IsBetween}
use Rattle.picture_model.specs.Shading.{component}

-- no component of the light is negative or above `most`, and at most all of what lies behind still shows
pub record IsBlendUpTo (most : ℕ) (b : Blend) : Type 0 where
  pub red : IsBetween 0 most (component b.sum 0)
  pub green : IsBetween 0 most (component b.sum 1)
  pub blue : IsBetween 0 most (component b.sum 2)
  pub rest : b.rest ≤ 65536
