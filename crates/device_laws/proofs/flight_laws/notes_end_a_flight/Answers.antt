use Rattle.device_laws.proofs.StandingSteps.{note_stands}
use Rattle.device_laws.proofs.SweepFacts.{one_noted, sweep_notes}
use Rattle.device_laws.proofs.flight_laws.notes_end_a_flight.Goals as goal

pub returns : goal.returns
returns c = record { one = one_noted; stands = note_stands; sweep = sweep_notes }
