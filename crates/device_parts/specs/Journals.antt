-- The journal of a device, as contracts see it.
use Rattle.std.specs.Prelude.{ℕ}
use Rattle.seq_model.specs.Histories.{History}

-- what happened, and for how many entries in all places are kept
pub record Logged : Type 0 where
  pub items : History
  pub room : ℕ
