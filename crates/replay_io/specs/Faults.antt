-- Counts of faults: numbers of 64 bits that never fall, and stand still at the last one.
use Rattle.std.specs.Prelude.{ℕ, ◌+◌, ◌-◌, ◌^◌, ◌≤◌, min}

-- the number after n, or n where it is the last
abbrev pub next_count : ℕ → ℕ
next_count n = min (n + 1) (2 ^ 64 - 1)

-- the count rose from before to now; one that stands at its last value counts as having risen
abbrev pub Rose : ℕ → ℕ → Type 0
Rose before now = next_count before ≤ now
