-- Flights that nobody has worked on yet, and flights whose work is done by one.
use Rattle.std.specs.Prelude.{◌≡◌, ◌<◌, false, List, [], None, length}
use Rattle.std.specs.List.{AllByRecursion}
use Rattle.frame_future.specs.Flights.{Flying, awaited, key_at}
use Rattle.tile_claims.specs.Parts.{tiles_of}
use Rattle.tile_claims.specs.Views.{IsAlone}

-- Nobody has worked on the flight, and nobody has stopped it: no seat of it was handed out, its first seat
-- has claimed no tile, nor tried to, and a look has read none as given. It has tiles
pub record IsUntouched (f : Flying) : Type 0 where
  pub alone : IsAlone f.view
  pub idle : f.view.opened ≡ None
  pub none_given : f.view.given ≡ []
  pub in_time : f.view.late ≡ false
  pub going : f.view.stop ≡ None
  pub none_read : f.looked ≡ 0
  pub some : 0 < tiles_of (key_at f)

abbrev pub AreUntouched : List Flying → Type 0
AreUntouched flights = AllByRecursion IsUntouched flights

-- only its first seat worked on the flight, and gave as many tiles as the flight waits for
pub record IsGiven (f : Flying) : Type 0 where
  pub alone : IsAlone f.view
  pub all : length f.view.given ≡ awaited f
