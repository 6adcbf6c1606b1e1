use Rattle.device_laws.proofs.OverFacts.{gone_is_unused, none_over, note_over, others_over}
use Rattle.device_laws.proofs.over_laws.flights_that_are_gone_are_over.Goals as goal

pub returns : goal.returns
returns c = record { starts = none_over; others = others_over; noted = note_over; unused = gone_is_unused }
