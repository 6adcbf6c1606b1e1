-- Histories of a device that sees no tile finished before a flight is.
use Rattle.std.specs.Prelude.{◌≡◌, All}
use Rattle.seq_model.specs.Extensions.{readings_of}
use Rattle.seq_model.specs.Histories.{History}
use Rattle.seq_model.specs.Legal.{Legal}

-- a legal history whose replies saw no tile of a flight
pub record IsUnseen (history : History) : Type 0 where
  pub legal : Legal history
  pub unseen : All (λ r. r.1 ≡ 0) (readings_of history)
