-- Square roots of whole numbers, rounded down.
use Rattle.std.specs.Prelude.{ℕ, zero, suc, ◌+◌, ◌*◌, ◌/◌, ◌≤◌, ◌<◌, nat_le, if◌then◌else◌}

-- r is the greatest whole number whose square is at most n
pub record IsRoot (n r : ℕ) : Type 0 where
  pub square_at_most : r * r ≤ n
  pub next_square_above : n < (r + 1) * (r + 1)

-- the root of n, which is r or r + 1
unfoldable pub root_or_next : ℕ → ℕ → ℕ
root_or_next n r = if nat_le ((r + 1) * (r + 1)) n then r + 1 else r

-- the root of n, by digits to the base 4 of which there are at most k: 0 has the root 0,
-- and any other number twice the root of its quarter, or one more (the cases of `elim` wait, so k may be large)
unfoldable pub root_at : ℕ → ℕ → ℕ
root_at zero n = 0
root_at (suc k) n = elim n as (λ _. ℕ) [ zero ↦ 0 | suc m ↦ root_or_next n (2 * root_at k (n / 4)) ]

-- the greatest whole number whose square is at most n: `IsRoot n (isqrt n)`
unfoldable pub isqrt : ℕ → ℕ
isqrt n = root_at n n
