-- Kept frames that are those that they were: looks at flights, seats that are handed out or lent, and channels that are mapped leave them so.
use Rattle.std.specs.Prelude.{◌≡◌, ℕ, Bool, List, map}
use Rattle.frame_future.specs.Flights.{Flying, key_at}
use Rattle.frame_future.specs.Future.{Finished, Future}
use Rattle.tile_claims.specs.declared.key.Key.{Key}
use Rattle.device_laws.specs.Flown.{Run, run_of}

-- a flight by its run and what it shows, and a picture by what it shows of which frame
pub record FlightShape : Type 0 where
  pub run : Run
  pub key : Key
  pub channels : List Bool

pub record PictureShape : Type 0 where
  pub ticket : ℕ
  pub frame : ℕ
  pub key : Key
  pub channels : List Bool

abbrev pub shape_of_flight : Flying → FlightShape
shape_of_flight f = record { run = run_of f; key = key_at f; channels = f.channels }

abbrev pub shape_of_picture : Finished → PictureShape
shape_of_picture p = record { ticket = p.ticket; frame = p.frame; key = p.key; channels = p.channels }

-- the flights and the pictures are the same, in their order
pub record SameFrames (old new : Future) : Type 0 where
  pub flights : map shape_of_flight new.flights ≡ map shape_of_flight old.flights
  pub pictures : map shape_of_picture new.pictures ≡ map shape_of_picture old.pictures
