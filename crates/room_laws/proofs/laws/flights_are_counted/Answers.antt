use Rattle.room_laws.proofs.FlightFacts.{as_many}
use Rattle.room_laws.proofs.laws.flights_are_counted.Goals as goal

pub returns : goal.returns
returns c = as_many
