use Rattle.device_laws.proofs.ReachFacts.{gone_is_not_reached, reach_lives}
use Rattle.device_laws.proofs.flight_laws.flights_hold_what_they_reached.Goals as goal

pub returns : goal.returns
returns c = record { lives = reach_lives; gone = gone_is_not_reached }
