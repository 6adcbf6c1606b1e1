-- The unit vector along a vector, by whole numbers alone.
use Rattle.std.specs.Prelude.{ℕ, zero, suc, pos, true, false, ◌*◌, ◌/◌, ◌^◌, ◌==◌, nat_lt, unsigned_abs, if◌then◌else◌}
use Rattle.fx_math.specs.declared.vectors.Vec3.{Vec3}
use Rattle.fx_math.specs.Root.{isqrt}
use Rattle.fx_math.specs.Vec3.{reach, times, truncated, dot}

-- how often m is halved to come below 2 ^ 30, counting at most `limit` times
unfoldable pub halvings_within : ℕ → ℕ → ℕ
halvings_within zero m = 0
halvings_within (suc limit) m = elim (nat_lt m (2 ^ 30)) as (λ _. ℕ) [ true ↦ 0 | false ↦ suc (halvings_within limit (m / 2)) ]

-- how often m is halved to come below 2 ^ 30: the least whole number k of at least 0 with m < 2 ^ (30 + k)
unfoldable pub halvings : ℕ → ℕ
halvings m = halvings_within m m

-- v brought within 2 ^ 30: each component divided by 2 ^ k and rounded toward zero, with the least k that serves
unfoldable pub shortened : Vec3 → Vec3
shortened v = truncated v (2 ^ halvings (reach v))

-- 65536 times the length of w, rounded down
unfoldable pub long_length : Vec3 → ℕ
long_length w = isqrt (2 ^ 32 * unsigned_abs (dot w w))

-- w brought to the length 65536: each component times 2 ^ 32, divided by 65536 times the length, rounded toward zero
unfoldable pub normalized : Vec3 → Vec3
normalized w = truncated (times w (pos (2 ^ 32))) (long_length w)

-- the vector of length 65536 along v, or v itself where it is zero
unfoldable pub unit : Vec3 → Vec3
unit v = if reach v == 0 then v else normalized (shortened v)
