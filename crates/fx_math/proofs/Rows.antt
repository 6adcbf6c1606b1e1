-- Worked rows: the definitions compute them.
use Rattle.std.proofs.Common.{◌≡◌, ℤ, pos, negsuc, refl}
use Rattle.fx_math.specs.declared.vectors.Vec3.{Vec3}
use Rattle.fx_math.specs.Root.{isqrt, root_at, root_or_next}
use Rattle.fx_math.specs.UnitVector.{halvings_within, halvings, shortened, long_length, normalized, unit}
use Rattle.fx_math.specs.Vec3.{reach, times, truncated, dot}

abbrev vec : ℤ → ℤ → ℤ → Vec3
vec x y z = record { x = x; y = y; z = z }

root_of_0 : isqrt 0 ≡ 0
unfolding isqrt root_at root_or_next
root_of_0 = refl

root_of_15 : isqrt 15 ≡ 3
unfolding isqrt root_at root_or_next
root_of_15 = refl

root_of_16 : isqrt 16 ≡ 4
unfolding isqrt root_at root_or_next
root_of_16 = refl

unit_of_zero : unit (vec (pos 0) (pos 0) (pos 0)) ≡ vec (pos 0) (pos 0) (pos 0)
unfolding unit reach
unit_of_zero = refl

unit_of_long : unit (vec (pos 4294967296) (pos 0) (pos 0)) ≡ vec (pos 65536) (pos 0) (pos 0)
unfolding unit reach normalized shortened long_length halvings halvings_within truncated times dot isqrt root_at root_or_next
unit_of_long = refl

-- (-3, 4, 0) / 5
unit_of_slanted : unit (vec (negsuc 2) (pos 4) (pos 0)) ≡ vec (negsuc 39320) (pos 52428) (pos 0)
unfolding unit reach normalized shortened long_length halvings halvings_within truncated times dot isqrt root_at root_or_next
unit_of_slanted = refl
