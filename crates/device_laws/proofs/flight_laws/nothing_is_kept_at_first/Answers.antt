use Rattle.device_laws.proofs.StandingFacts.{first_flown, first_stands}
use Rattle.device_laws.proofs.flight_laws.nothing_is_kept_at_first.Goals as goal

pub returns : goal.returns
returns c = record { flown = first_flown; stands = first_stands }
