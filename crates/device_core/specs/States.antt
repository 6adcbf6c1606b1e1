-- What contracts see of a device, and what always holds of it.
use Rattle.std.specs.Prelude.{◌≡◌, ◌≤◌, ◌<◌, ℕ, ◌+◌, ◌-◌, ◌^◌, Bool, false, List, [], length, min}
use Rattle.dev_types.specs.declared.notices.Notice.{Notice}
use Rattle.object_steps.specs.Objects.{tellable}
use Rattle.device_parts.specs.AllParts.{Inside}
use Rattle.device_parts.specs.Standing.{IsStanding}

-- the parts; what the client was told, and how many notices more it can take without memory; how many
-- entries the journal has at most; and whether the end has begun
pub record Device : Type 0 where
  pub parts : Inside
  pub told : List Notice
  pub spare : ℕ
  pub limit : ℕ
  pub ending : Bool

-- how many entries there are, and how many notes of flights are owed
abbrev pub owed : Inside → ℕ
owed i = length i.history + length i.flights.future.flights

-- for how many more entries there is memory, beside the notes of the flights and the close
abbrev pub spare_places : Inside → ℕ
spare_places i = i.room - (length i.history + length i.flights.future.flights + 1)

-- how many more notices the client can take, beside the ends that it is to be told
abbrev pub spare_notices : Device → ℕ
spare_notices d = d.spare - tellable d.parts.objects.stored.state

-- for how many calls there is memory: for the entry of each, and for its status
abbrev pub spare_calls : Device → ℕ
spare_calls d = min (spare_places d.parts) (spare_notices d)

-- What always holds: the client was told of all that died, and has room for the ends of all, of which there
-- are no more than entries; behind the notes that are owed the journal has a place for the close; and as long
-- as the end has not begun, what is kept of frames stands as the history says
pub record IsDevice (d : Device) : Type 0 where
  pub all_told : d.parts.objects.dead ≡ []
  pub spare : tellable d.parts.objects.stored.state ≤ d.spare
  pub counted : tellable d.parts.objects.stored.state ≤ length d.parts.history
  pub within : owed d.parts < d.limit
  pub limit : d.limit ≤ 2 ^ 20
  pub stands : d.ending ≡ false → IsStanding d.parts
