-- The fractions of a triangle as they are tested: over a denominator that was made positive.
use Rattle.std.specs.Prelude.{Option, Some, None, ℕ, ◌*◌, ◌/◌, ℤ, pos, neg_ℤ, int_le, unsigned_abs, Bool, ◌&&◌, nat_le, if◌then◌else◌}
use Rattle.picture_model.specs.Depths.{farthest}

-- z, with its sign turned where `turn`
unfoldable pub turned_by : Bool → ℤ → ℤ
turned_by turn z = if turn then neg_ℤ z else z

-- the depth number floor (65536 t / det) of a point of the ray, if it is not behind the ray's origin and not too far
unfoldable pub depth_number : ℤ → ℤ → Option ℕ
depth_number t det =
    let s = 65536 * unsigned_abs t / unsigned_abs det in
    if int_le (pos 0) t && nat_le s farthest then Some s else None
