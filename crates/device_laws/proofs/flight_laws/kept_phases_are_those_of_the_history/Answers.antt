use Rattle.device_laws.proofs.StandingFacts.{phases_agree}
use Rattle.device_laws.proofs.flight_laws.kept_phases_are_those_of_the_history.Goals as goal

pub returns : goal.returns
returns c = λ history future h flown standing. phases_agree history future flown standing h
