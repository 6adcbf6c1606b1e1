-- Affine transforms by a matrix of four columns, in units of 1 / 65536.
use Rattle.std.specs.Prelude.{ℕ, ℤ, pos, ◌+◌, ◌*◌, ◌*ℤ◌, unsigned_abs, slice_index_or}
use Rattle.std.specs.Int.{int_div_euclid}
use Rattle.fx_math.specs.declared.transforms.Mat34.{Mat34}
use Rattle.fx_math.specs.declared.vectors.Vec3.{Vec3}
use Rattle.fx_math.specs.Root.{isqrt}
use Rattle.fx_math.specs.Vec3.{add, dot, scaled_down}

-- number i of the matrix, column after column
abbrev entry : Mat34 → ℕ → ℤ
entry m i = slice_index_or m.c i (pos 0)

-- column j: 0 to 2 are where the axes go, 3 is where the origin goes
unfoldable pub column : Mat34 → ℕ → Vec3
column m j = record { x = entry m (3 * j); y = entry m (3 * j + 1); z = entry m (3 * j + 2) }

-- row i of the first three columns
unfoldable pub row : Mat34 → ℕ → Vec3
row m i = record { x = entry m i; y = entry m (3 + i); z = entry m (6 + i) }

-- the image of a direction: the first three columns times v, each component rounded down
unfoldable pub linear : Mat34 → Vec3 → Vec3
linear m v = scaled_down (record { x = dot (row m 0) v; y = dot (row m 1) v; z = dot (row m 2) v })

-- the image of a point
unfoldable pub placed : Mat34 → Vec3 → Vec3
placed m v = add (linear m v) (column m 3)

-- the length of the first axis' image, rounded down
unfoldable pub axis_length : Mat34 → ℕ
axis_length m = isqrt (unsigned_abs (dot (column m 0) (column m 0)))

-- what a radius becomes: the radius times the length of the first axis' image, rounded down
unfoldable pub scaled_radius : Mat34 → ℤ → ℤ
scaled_radius m radius = int_div_euclid (radius *ℤ pos (axis_length m)) (pos 65536)
