use Rattle.device_laws.proofs.FlightSteps.{flights_by, stops_after}
use Rattle.device_laws.proofs.entry_laws.entries_move_flights.Goals as goal

pub returns : goal.returns
returns c = record { flights = flights_by; stopped = stops_after }
