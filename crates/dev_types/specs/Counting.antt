-- How often a number stands in a list.
use Rattle.std.specs.Prelude.{ℕ, ◌==◌, List, count_by}

-- how often a list has a number
abbrev pub times : ℕ → List ℕ → ℕ
times n list = count_by (λ k. k == n) list
