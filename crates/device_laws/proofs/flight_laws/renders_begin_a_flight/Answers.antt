use Rattle.device_laws.proofs.FlightSteps.{flights_by}
use Rattle.device_laws.proofs.FlownFacts.{render_adds}
use Rattle.device_laws.proofs.PhaseFacts.{render_phase}
use Rattle.device_laws.proofs.StandingSteps.{render_stands}
use Rattle.past_laws.specs.Worlds.{render_of}
use Rattle.device_laws.proofs.flight_laws.renders_begin_a_flight.Goals as goal

pub returns : goal.returns
returns c = record {
  flights = λ history actor f t legal. flights_by history (render_of actor f) t legal;
  phase = render_phase;
  flown = render_adds;
  stands = render_stands;
}
