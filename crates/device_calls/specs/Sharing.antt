-- What always holds of the state that callers share, and what no call changes of it.
use Rattle.std.specs.Prelude.{◌≡◌, ◌-◌, ◌++◌, ℕ, false, List, length, take}
use Rattle.dev_types.specs.declared.notices.Notice.{Notice}
use Rattle.device_core.specs.States.{Device}
use Rattle.frame_future.specs.Future.{AreHome}
use Rattle.seq_model.specs.Told.{told}

-- Between two holds of the turn: no flight is lent, the end has not begun, and behind what the client was told
-- before it was told exactly what the history tells
pub record IsShared (d : Device) : Type 0 where
  pub home : AreHome d.parts.flights.future
  pub going : d.ending ≡ false
  pub first : List Notice
  pub told : d.told ≡ first ++ told d.parts.history

-- what the client was told before the device began: all but what the history tells
abbrev pub told_first : Device → List Notice
told_first d = take (length d.told - length (told d.parts.history)) d.told

-- how many entries the journal takes at most, and what the client was told before the device began
pub record Given : Type 0 where
  pub limit : ℕ
  pub notices : List Notice

abbrev pub given_of : Device → Given
given_of d = record { limit = d.limit; notices = told_first d }
