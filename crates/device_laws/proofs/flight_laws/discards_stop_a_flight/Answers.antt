use Rattle.device_laws.proofs.FlownFacts.{discard_stops}
use Rattle.device_laws.proofs.FutureFacts.{discarded_runs}
use Rattle.device_laws.proofs.StandingSteps.{discard_stands}
use Rattle.device_laws.proofs.flight_laws.discards_stop_a_flight.Goals as goal

pub returns : goal.returns
returns c = record { flown = discard_stops; stands = discard_stands; kept = discarded_runs }
