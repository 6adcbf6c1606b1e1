-- The box of what was read so far, point by point.
use Rattle.std.specs.Prelude.{ℤ, pos, negsuc, List, [], ◌∷◌, fold}
use Rattle.std.specs.Int.{int_max, int_min}
use Rattle.fx_math.specs.declared.scene.Primitive.{Primitive}
use Rattle.fx_math.specs.declared.scene.Shape.{Shape}
use Rattle.fx_math.specs.declared.vectors.Vec3.{Vec3}
use Rattle.seq_model.specs.Properties.{ends_of}
use Rattle.device_queries.specs.declared.extents.Corner.{Corner}
use Rattle.device_queries.specs.declared.extents.Extent.{Extent}

-- a coordinate within 32 bits, and a point whose coordinates are
abbrev pub clamped : ℤ → ℤ
clamped z = int_max (negsuc 2147483647) (int_min z (pos 2147483647))

abbrev pub corner_of : Vec3 → Corner
corner_of p = record { x = clamped p.x; y = clamped p.y; z = clamped p.z }

-- the extent of no point: no coordinate of 32 bits is above its least, or below its greatest ones
abbrev pub nothing : Extent
nothing = record {
  low = record { x = pos 2147483647; y = pos 2147483647; z = pos 2147483647 };
  high = record { x = negsuc 2147483647; y = negsuc 2147483647; z = negsuc 2147483647 };
}

-- an extent with one more corner, and with one more point
abbrev pub extended : Extent → Corner → Extent
extended e c = record {
  low = record { x = int_min e.low.x c.x; y = int_min e.low.y c.y; z = int_min e.low.z c.z };
  high = record { x = int_max e.high.x c.x; y = int_max e.high.y c.y; z = int_max e.high.z c.z };
}

abbrev pub with_point : Extent → Vec3 → Extent
with_point e p = extended e (corner_of p)

-- an extent with the box of one more shape, and of one more primitive
abbrev pub with_shape : Extent → Shape → Extent
with_shape e shape = fold with_point e (ends_of shape)

abbrev pub with_primitive : Extent → Primitive → Extent
with_primitive e p = with_shape e p.shape

-- the extent of some primitives
abbrev pub extent_of : List Primitive → Extent
extent_of primitives = fold with_primitive nothing primitives

-- the numbers of an extent: three lower, then three upper ones
abbrev pub numbers_of : Extent → List ℤ
numbers_of e = e.low.x ∷ e.low.y ∷ e.low.z ∷ e.high.x ∷ e.high.y ∷ e.high.z ∷ []
