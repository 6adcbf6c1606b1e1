-- What contracts see of a device with one caller, and what always holds of it.
use Rattle.std.specs.Prelude.{◌≡◌, ◌++◌, ℕ, false, List}
use Rattle.dev_types.specs.declared.notices.Notice.{Notice}
use Rattle.frame_future.specs.Future.{AreHome}
use Rattle.seq_model.specs.Steps.{Past, after}
use Rattle.seq_model.specs.Told.{told}
use Rattle.device_core.specs.States.{Device}
use Rattle.solo_device.specs.Untouched.{AreUntouched}

-- its past, what the client was told, and how many entries the journal has at most
pub record Lone : Type 0 where
  pub past : Past
  pub told : List Notice
  pub limit : ℕ

-- as it is seen of the device below
abbrev pub lone_of : Device → Lone
lone_of d = record { past = after d.parts.history; told = d.told; limit = d.limit }

-- what always holds of the device below: nobody has worked on its flights, none is lent, and its end has not
-- begun
pub record IsLone (d : Device) : Type 0 where
  pub untouched : AreUntouched d.parts.flights.future.flights
  pub home : AreHome d.parts.flights.future
  pub going : d.ending ≡ false

-- the client was told what the history tells, as far as it grew
abbrev pub HeardOn : Lone → Lone → Type 0
HeardOn old new = (before : List Notice)
    → old.told ≡ before ++ told old.past.seen
    → new.told ≡ before ++ told new.past.seen
