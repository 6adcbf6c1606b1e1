-- What the last look at a flight read.
use Rattle.std.specs.Prelude.{ℕ, ◌<◌}
use Rattle.std.specs.List.{AllByRecursion}
use Rattle.std.specs.Option.{option_map_or}
use Rattle.frame_future.specs.Flights.{awaited}
use Rattle.frame_future.specs.Future.{Future, flight_of}

-- how many tiles of the frame's flight the last look read as given; none where it is in no flight
abbrev pub given_of : Future → ℕ → ℕ
given_of s frame = option_map_or (λ f. f.looked) (flight_of s frame) 0

-- the last look at each flight read fewer given tiles than the flight waits for
abbrev pub AreShort : Future → Type 0
AreShort s = AllByRecursion (λ f. f.looked < awaited f) s.flights
