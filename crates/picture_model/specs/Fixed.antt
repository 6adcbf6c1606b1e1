-- Whole numbers that count 1/65536, and division that rounds down, also below zero.
use Rattle.std.specs.Prelude.{ℕ, ℤ, pos, ◌*ℤ◌}
use Rattle.std.specs.Int.{int_div_euclid}

infixl 7 ◌/ℤ◌
-- a / n, rounded down
abbrev pub ◌/ℤ◌ : ℤ → ℕ → ℤ
a /ℤ n = int_div_euclid a (pos n)

-- the product of two numbers that count 1/65536, rounded down
abbrev pub product : ℤ → ℤ → ℤ
product a b = a *ℤ b /ℤ 65536
