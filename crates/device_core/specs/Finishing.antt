-- How a device ends.
use Rattle.std.specs.Prelude.{◌≡◌, ℕ, true}
use Rattle.std.specs.Option.{MatchOption}
use Rattle.std.specs.List.{slice_get}
use Rattle.flight_books.specs.Stops.{StopsAll}
use Rattle.frame_future.specs.Flights.{awaited}
use Rattle.device_core.specs.States.{Device}
use Rattle.device_core.specs.Sweeping.{Sweeps}

-- A sweep; each flight that was not stopped is stopped, which the history does not tell; and another sweep
-- notes those that ended by it
pub record Halts (old new : Device) : Type 0 where
  pub swept : Device
  pub stopped : Device
  pub first : Sweeps old swept
  pub stops : StopsAll swept.parts.flights stopped.parts.flights
  pub rest : stopped ≡ record swept { parts = record swept.parts { flights = stopped.parts.flights }; ending = true }
  pub second : Sweeps stopped new

-- the last look at the first flight read so many tiles given, and it waits for so many
abbrev pub IsFirstLook : Device → ℕ → ℕ → Type 0
IsFirstLook d given claimed =
    MatchOption (slice_get d.parts.flights.future.flights 0) ⊥ (λ f. (f.looked ≡ given) × (awaited f ≡ claimed))
