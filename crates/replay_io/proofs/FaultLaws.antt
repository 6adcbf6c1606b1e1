-- Laws of counts of faults.
use Rattle.std.proofs.Common.{ℕ, ◌≤◌, arith}
use Rattle.replay_io.specs.Faults.{Rose}

-- a rise stays one when the count goes on
pub Rose-later : (before mid now : ℕ) → Rose before mid → mid ≤ now → Rose before now
Rose-later before mid now rose later = omega (arith, rose, later)

-- a rise is one from any earlier count on
pub Rose-earlier : (before mid now : ℕ) → before ≤ mid → Rose mid now → Rose before now
Rose-earlier before mid now later rose = omega (arith, later, rose)

-- a count that is zero for good never rose
pub Rose-never : Rose 0 0 → ⊥
Rose-never rose = omega (arith, rose)
