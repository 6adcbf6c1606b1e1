-- What replies told of flights, and what was read of them.
use Rattle.std.specs.Prelude.{◌≤◌, List}
use Rattle.std.specs.List.{AllByRecursion}
use Rattle.frame_future.specs.Flights.{Flying}
use Rattle.seq_model.specs.Extensions.{readings_of}
use Rattle.seq_model.specs.Histories.{History}
use Rattle.seq_model.specs.Legal.{IsNoLess}

-- no reply told of more given tiles of the flight than its last look read, which read no more than its first seat has seen given
pub record IsTold (history : History) (f : Flying) : Type 0 where
  pub told : IsNoLess (readings_of history) (f.ticket, f.looked)
  pub read : f.looked ≤ f.view.gives.last

abbrev pub AreTold : History → List Flying → Type 0
AreTold history flights = AllByRecursion (IsTold history) flights
