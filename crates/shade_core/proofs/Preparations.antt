-- What a prepared camera's ray at a pixel is, and how far it reaches.
use Rattle.std.proofs.Common.{◌≡◌, ℕ, ◌^◌, ◌≤◌, ℤ, arith, refl}
use Rattle.fx_math.specs.Vec3.{add}
use Rattle.fx_math.specs.declared.vectors.Vec3.{Vec3}
use Rattle.fx_math.specs.declared.scene.CameraRow.{CameraRow}
use Rattle.fx_math.specs.declared.scene.CameraRow.TheVariants.{Orthographic, Perspective}
use Rattle.picture_model.proofs.Numbers.{abs-between}
use Rattle.picture_model.specs.declared.rays.Axes.{Axes}
use Rattle.picture_model.specs.Rays.{across, camera_ray, in_window, offset}
use Rattle.shade_core.specs.declared.cameras.Span.{Span}
use Rattle.shade_core.specs.Frames.{IsPrepared, lens_of, offset_in, reach_of, right_span, up_span}

-- ---- pixels of the spans
pub right_pixels : (camera : CameraRow) (w h : ℕ) (axes : Axes) (right up : Span) → IsPrepared camera w h axes right up → right.pixels ≡ w
unfolding right_span
right_pixels camera w h axes right up p = rw p.right_is refl

pub up_pixels : (camera : CameraRow) (w h : ℕ) (axes : Axes) (right up : Span) → IsPrepared camera w h axes right up → up.pixels ≡ h
unfolding up_span
up_pixels camera w h axes right up p = rw p.up_is refl

-- ---- the ray
window-is : (camera : CameraRow) (w h : ℕ) (axes : Axes) (right up : Span) → IsPrepared camera w h axes right up → (x y : ℕ) →
    across axes (offset_in right x) (offset_in up y) ≡ in_window axes (lens_of camera).length (lens_of camera).aspect (lens_of camera).unit w h x y
unfolding in_window offset offset_in right_span up_span
window-is camera w h axes right up p x y = rw (p.right_is, p.up_is) refl

pub orthographic-is : (position direction above : Vec3) (aspect height : ℤ) (w h : ℕ) (axes : Axes) (right up : Span) →
    IsPrepared (Orthographic position direction above aspect height) w h axes right up → (x y : ℕ) →
    record { o = add position (across axes (offset_in right x) (offset_in up y)); d = axes.forward } ≡ camera_ray (Orthographic position direction above aspect height) w h x y
unfolding camera_ray lens_of
orthographic-is position direction above aspect height w h axes right up p x y =
    rw (window-is (Orthographic position direction above aspect height) w h axes right up p x y, p.axes_are) refl

pub perspective-is : (position direction above : Vec3) (aspect tangent : ℤ) (w h : ℕ) (axes : Axes) (right up : Span) →
    IsPrepared (Perspective position direction above aspect tangent) w h axes right up → (x y : ℕ) →
    record { o = position; d = add axes.forward (across axes (offset_in right x) (offset_in up y)) } ≡ camera_ray (Perspective position direction above aspect tangent) w h x y
unfolding camera_ray lens_of
perspective-is position direction above aspect tangent w h axes right up p x y =
    rw (window-is (Perspective position direction above aspect tangent) w h axes right up p x y, p.axes_are) refl

-- ---- its reach
pub record IsWindowWithin (right up : Span) (m n : ℕ) : Type 0 where
  pub sideways : reach_of right ≤ m
  pub upward : reach_of up ≤ n

pub orthographic-reach : (position direction above : Vec3) (aspect height : ℤ) (w h : ℕ) (axes : Axes) (right up : Span) →
    IsPrepared (Orthographic position direction above aspect height) w h axes right up → IsWindowWithin right up (2 ^ 29) (2 ^ 26)
unfolding lens_of
orthographic-reach position direction above aspect height w h axes right up p =
    let length = abs-between 1 (2 ^ 26) height p.within.opening in
    record { sideways = omega (arith, p.right_reach); upward = omega (arith, p.up_reach) }

pub perspective-reach : (position direction above : Vec3) (aspect tangent : ℤ) (w h : ℕ) (axes : Axes) (right up : Span) →
    IsPrepared (Perspective position direction above aspect tangent) w h axes right up → IsWindowWithin right up (2 ^ 24) (2 ^ 20)
unfolding lens_of
perspective-reach position direction above aspect tangent w h axes right up p =
    let length = abs-between 1 (2 ^ 20) tangent p.within.opening in
    record { sideways = omega (arith, p.right_reach); upward = omega (arith, p.up_reach) }

pub window-reach : (camera : CameraRow) (w h : ℕ) (axes : Axes) (right up : Span) → IsPrepared camera w h axes right up → IsWindowWithin right up (2 ^ 29) (2 ^ 26)
window-reach (Orthographic position direction above aspect height) w h axes right up p = orthographic-reach position direction above aspect height w h axes right up p
window-reach (Perspective position direction above aspect tangent) w h axes right up p =
    let within = perspective-reach position direction above aspect tangent w h axes right up p in
    record { sideways = omega (arith, within.sideways); upward = omega (arith, within.upward) }
