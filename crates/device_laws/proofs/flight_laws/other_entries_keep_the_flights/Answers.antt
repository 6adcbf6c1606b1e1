use Rattle.device_laws.proofs.FlownFacts.{others_keep}
use Rattle.device_laws.proofs.StandingSteps.{others_stand}
use Rattle.device_laws.proofs.flight_laws.other_entries_keep_the_flights.Goals as goal

pub returns : goal.returns
returns c = record { flown = others_keep; stands = others_stand }
