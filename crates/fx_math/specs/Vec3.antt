-- Vectors of whole numbers: their size, sums and products.
use Rattle.std.specs.Prelude.{ℕ, ℤ, pos, max, unsigned_abs, ◌+ℤ◌, ◌-ℤ◌, ◌*ℤ◌, neg_ℤ, int_div}
use Rattle.std.specs.Int.{int_div_euclid}
use Rattle.fx_math.specs.declared.vectors.Vec3.{Vec3}

-- the greatest absolute value of a component
unfoldable pub reach : Vec3 → ℕ
reach v = max (unsigned_abs v.x) (max (unsigned_abs v.y) (unsigned_abs v.z))

-- a + b
unfoldable pub add : Vec3 → Vec3 → Vec3
add a b = record { x = a.x +ℤ b.x; y = a.y +ℤ b.y; z = a.z +ℤ b.z }

-- a - b
unfoldable pub sub : Vec3 → Vec3 → Vec3
sub a b = record { x = a.x -ℤ b.x; y = a.y -ℤ b.y; z = a.z -ℤ b.z }

-- - v
unfoldable pub neg : Vec3 → Vec3
neg v = record { x = neg_ℤ v.x; y = neg_ℤ v.y; z = neg_ℤ v.z }

-- v, s times
unfoldable pub times : Vec3 → ℤ → Vec3
times v s = record { x = v.x *ℤ s; y = v.y *ℤ s; z = v.z *ℤ s }

-- v / 65536, each component rounded down: products of numbers that count 1 / 65536 count it again
unfoldable pub scaled_down : Vec3 → Vec3
scaled_down v = record {
  x = int_div_euclid v.x (pos 65536);
  y = int_div_euclid v.y (pos 65536);
  z = int_div_euclid v.z (pos 65536);
}

-- v / d, each component rounded toward zero
unfoldable pub truncated : Vec3 → ℕ → Vec3
truncated v d = record { x = int_div v.x (pos d); y = int_div v.y (pos d); z = int_div v.z (pos d) }

-- the scalar product a . b
unfoldable pub dot : Vec3 → Vec3 → ℤ
dot a b = a.x *ℤ b.x +ℤ a.y *ℤ b.y +ℤ a.z *ℤ b.z

-- the vector product a x b, at right angles to both
unfoldable pub cross : Vec3 → Vec3 → Vec3
cross a b = record {
  x = a.y *ℤ b.z -ℤ a.z *ℤ b.y;
  y = a.z *ℤ b.x -ℤ a.x *ℤ b.z;
  z = a.x *ℤ b.y -ℤ a.y *ℤ b.x;
}
