-- The ray of a pixel. Pixel (0, 0) is the lower left one of a frame of w by h (ANARI 1.0 Specification, Camera).
-- Directions have 65536 for one, and every division rounds down at its own place.
use Rattle.std.specs.Prelude.{ℕ, ℤ, pos, ◌+◌, ◌*◌, ◌-ℤ◌, ◌*ℤ◌}
use Rattle.fx_math.specs.UnitVector.{unit}
use Rattle.fx_math.specs.Vec3.{add, cross, scaled_down, times}
use Rattle.fx_math.specs.declared.vectors.Vec3.{Vec3}
use Rattle.fx_math.specs.declared.vectors.Ray.{Ray}
use Rattle.fx_math.specs.declared.scene.CameraRow.{CameraRow}
use Rattle.fx_math.specs.declared.scene.CameraRow.TheVariants.{Orthographic, Perspective}
use Rattle.picture_model.specs.declared.rays.Axes.{Axes}
use Rattle.picture_model.specs.Fixed.{◌/ℤ◌}

-- the axes of a camera that looks along `direction`, with `up` as near to its picture's up as may be
unfoldable pub axes_of : Vec3 → Vec3 → Axes
axes_of direction up =
    let forward = unit direction in
    let right = unit (cross forward up) in
    record { forward = forward; right = right; up = unit (cross right forward) }

-- how far the middle of pixel i lies from the middle of a row of n pixels, in half pixels
abbrev pub off_middle : ℕ → ℕ → ℤ
off_middle n i = pos (2 * i + 1) -ℤ pos n

-- the same in a row of n pixels that reaches `extent` / `unit` to either side of its middle
unfoldable pub offset : ℤ → ℕ → ℕ → ℕ → ℤ
offset extent unit n i = extent *ℤ off_middle n i /ℤ (unit * n)

-- sx to the right and sy up in the picture's plane
unfoldable pub across : Axes → ℤ → ℤ → Vec3
across axes sx sy = scaled_down (add (times axes.right sx) (times axes.up sy))

-- the way from the middle of a window to pixel (x, y): the window reaches `length` / `unit` up and down, and times the aspect sideways
unfoldable pub in_window : Axes → ℤ → ℤ → ℕ → ℕ → ℕ → ℕ → ℕ → Vec3
in_window axes length aspect unit w h x y = across axes (offset (length *ℤ aspect) (65536 * unit) w x) (offset length unit h y)

-- the ray of pixel (x, y). Parallel rays start side by side in a window that is `height` high; the others spread from the camera's
-- position through a window at distance one that is two tangents high
unfoldable pub camera_ray : CameraRow → ℕ → ℕ → ℕ → ℕ → Ray
camera_ray (Orthographic position direction up aspect height) w h x y =
    let axes = axes_of direction up in
    record { o = add position (in_window axes height aspect 2 w h x y); d = axes.forward }
camera_ray (Perspective position direction up aspect tangent) w h x y =
    let axes = axes_of direction up in
    record { o = position; d = add axes.forward (in_window axes tangent aspect 1 w h x y) }
