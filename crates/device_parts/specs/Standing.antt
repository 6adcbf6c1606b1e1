-- What holds of the parts of a device as long as its end has not begun.
use Rattle.device_laws.specs.FramesStand.{FramesStand}
use Rattle.device_laws.specs.Replies.{AreTold}
use Rattle.device_parts.specs.AllParts.{Inside}

-- a call may follow, what is kept of frames stands as the history says, and no reply told more of a
-- flight than its last look read
pub record IsStanding (i : Inside) : Type 0 where
  pub frames : FramesStand i.history i.flights.future
  pub told : AreTold i.history i.flights.future.flights
