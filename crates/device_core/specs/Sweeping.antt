-- What a sweep does to a device.
use Rattle.std.specs.Prelude.{◌≡◌, ◌≤◌, ◌++◌, List, Result}
use Rattle.dev_types.specs.declared.handles.NoMemory.{NoMemory as NoRoom}
use Rattle.dev_types.specs.declared.notices.Notice.{Notice}
use Rattle.seq_model.specs.Told.{told}
use Rattle.device_parts.specs.Looks.{AreShort}
use Rattle.device_parts.specs.Sweeps.{HasSwept}
use Rattle.device_parts.specs.Uses.{NothingGoneIsUsed}
use Rattle.device_parts.specs.Works.{TakesWork}
use Rattle.device_parts.specs.declared.works.Handout.{Handout}
use Rattle.device_core.specs.States.{Device, spare_calls}

-- the client was told what the history tells, as far as it grew
abbrev pub TellsOn : Device → Device → Type 0
TellsOn old new = (before : List Notice)
    → old.told ≡ before ++ told old.parts.history
    → new.told ≡ before ++ told new.parts.history

-- each flight was looked at once, those that ended were noted, and the client was told
pub record Sweeps (old new : Device) : Type 0 where
  pub parts : HasSwept old.parts new.parts
  pub told : TellsOn old new
  pub spare : spare_calls old ≤ spare_calls new
  pub limit : new.limit ≡ old.limit
  pub ending : new.ending ≡ old.ending

-- the device was swept, nothing that is gone was used then, and the flights were asked for work
pub record Works (result : Result Handout NoRoom) (old new : Device) : Type 0 where
  pub swept : Device
  pub sweep : Sweeps old swept
  pub short : AreShort swept.parts.flights.future
  pub unused : NothingGoneIsUsed swept.parts
  pub taken : TakesWork result swept.parts new.parts
  pub rest : new ≡ record swept { parts = new.parts }
