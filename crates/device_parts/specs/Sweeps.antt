-- What a sweep of the flights does to the parts of a device.
use Rattle.std.specs.Prelude.{◌≡◌, List}
use Rattle.flight_books.specs.Kept.{Books}
use Rattle.flight_books.specs.Sweeps.{IsSwept}
use Rattle.frame_future.specs.Future.{Finished}
use Rattle.device_parts.specs.AllParts.{Inside}
use Rattle.device_parts.specs.declared.loads.Load.{Load}

-- the flights with other pictures
abbrev pub showing : List Finished → Books Load → Books Load
showing pictures b = record b { future = record b.future { pictures = pictures } }

-- Each flight was looked at once, and those that ended were noted, by rising ticket; of the frames
-- that died with a note the pictures are gone
pub record HasSwept (old new : Inside) : Type 0 where
  pub pictures : List Finished
  pub flights : IsSwept old.flights (showing pictures new.flights) old.history new.history
  pub room : new.room ≡ old.room
