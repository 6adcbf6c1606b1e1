-- What a prepared camera stands for, and what it keeps for all rays of its frame.
use Rattle.std.specs.Prelude.{ℕ, ◌*◌, ◌/◌, ◌^◌, ◌≤◌, ◌≡◌, ℤ, ◌*ℤ◌, unsigned_abs}
use Rattle.fx_math.specs.Vec3.{reach}
use Rattle.fx_math.specs.declared.scene.CameraRow.{CameraRow}
use Rattle.fx_math.specs.declared.scene.CameraRow.TheVariants.{Orthographic, Perspective}
use Rattle.picture_model.specs.declared.rays.Axes.{Axes}
use Rattle.picture_model.specs.Fixed.{◌/ℤ◌}
use Rattle.picture_model.specs.Limits.{AreAxesWithin, IsBetween, IsCameraWithin}
use Rattle.picture_model.specs.Rays.{axes_of, off_middle}
use Rattle.shade_core.specs.declared.cameras.Lens.{Lens}
use Rattle.shade_core.specs.declared.cameras.Span.{Span}

-- a camera, and the width and the height of its frame in pixels
pub record View : Type 0 where
  pub camera : CameraRow
  pub width : ℕ
  pub height : ℕ

-- the numbers of a camera without its position: the window of its picture reaches length / unit up and down
unfoldable pub lens_of : CameraRow → Lens
lens_of (Orthographic position direction up aspect height) = record { direction = direction; up = up; aspect = aspect; length = height; unit = 2 }
lens_of (Perspective position direction up aspect tangent) = record { direction = direction; up = up; aspect = aspect; length = tangent; unit = 1 }

-- a row of pixels from the left to the right of the window
unfoldable pub right_span : Lens → ℕ → Span
right_span lens w = record { extent = lens.length *ℤ lens.aspect; divisor = 65536 * lens.unit * w; pixels = w }

-- a column of pixels from the bottom to the top of the window
unfoldable pub up_span : Lens → ℕ → Span
up_span lens h = record { extent = lens.length; divisor = lens.unit * h; pixels = h }

-- how far the middle of pixel i lies from the middle of the window
unfoldable pub offset_in : Span → ℕ → ℤ
offset_in span i = span.extent *ℤ off_middle span.pixels i /ℤ span.divisor

-- a span within the limits
pub record IsSpanWithin (span : Span) : Type 0 where
  pub extent : unsigned_abs span.extent ≤ 2 ^ 46
  pub pixels : span.pixels ≤ 4096
  pub least : 1 ≤ span.divisor
  pub most : span.divisor ≤ 2 ^ 29

-- how far the pixels of a span lie from the middle, at most
unfoldable pub reach_of : Span → ℕ
reach_of span = unsigned_abs span.extent * span.pixels / span.divisor

-- the numbers of a camera within the limits
pub record IsLensWithin (lens : Lens) : Type 0 where
  pub ahead : reach lens.direction ≤ 2 ^ 31
  pub upward : reach lens.up ≤ 2 ^ 31
  pub ratio : IsBetween 1 (2 ^ 20) lens.aspect
  pub opening : IsBetween 1 (2 ^ 26) lens.length
  pub unit_least : 1 ≤ lens.unit
  pub unit_most : lens.unit ≤ 2

-- what a prepared camera keeps fits its camera and its frame
pub record IsPrepared (camera : CameraRow) (w h : ℕ) (axes : Axes) (right up : Span) : Type 0 where
  pub within : IsCameraWithin camera
  pub axes_are : axes ≡ axes_of (lens_of camera).direction (lens_of camera).up
  pub right_is : right ≡ right_span (lens_of camera) w
  pub up_is : up ≡ up_span (lens_of camera) h
  pub axes_within : AreAxesWithin axes
  pub right_within : IsSpanWithin right
  pub up_within : IsSpanWithin up
  pub right_reach : reach_of right * (lens_of camera).unit ≤ 16 * unsigned_abs (lens_of camera).length
  pub up_reach : reach_of up ≤ unsigned_abs (lens_of camera).length
