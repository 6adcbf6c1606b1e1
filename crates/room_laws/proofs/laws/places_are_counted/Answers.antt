use Rattle.room_laws.proofs.PlaceFacts.{taken, two_a_call}
use Rattle.room_laws.proofs.laws.places_are_counted.Goals as goal

pub returns-clause-entries : goal.returns-clause-entries
returns-clause-entries c = taken

pub returns-clause-calls : goal.returns-clause-calls
returns-clause-calls c = two_a_call
