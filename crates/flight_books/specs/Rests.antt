-- Flights at which nobody works.
use Rattle.std.specs.Prelude.{◌≡◌, ◌<◌, length}
use Rattle.tile_claims.specs.Views.{IsAlone}
use Rattle.frame_future.specs.Flights.{Flying, awaited}

-- No seat of the flight was handed out, and since its last look, which was short of its end, its
-- first seat gave no tile
pub record IsUnworked (f : Flying) : Type 0 where
  pub alone : IsAlone f.view
  pub looked : f.looked ≡ length f.view.given
  pub waits : f.looked < awaited f
