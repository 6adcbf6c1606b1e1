-- What is known of a transform that is kept with the length of its first axis.
use Rattle.std.specs.Prelude.{◌≡◌, ◌<◌, ◌^◌, pos, unsigned_abs, ℤ}
use Rattle.fx_math.specs.Mat34.{axis_length}
use Rattle.fx_math.specs.declared.transforms.Mat34.{Mat34}

-- the length of a transform's first axis
pub record IsScale (m : Mat34) (scale : ℤ) : Type 0 where
  pub is : scale ≡ pos (axis_length m)
  pub size : unsigned_abs scale < 2 ^ 32
