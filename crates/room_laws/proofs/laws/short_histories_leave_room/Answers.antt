use Rattle.room_laws.proofs.PlaceFacts.{few_calls_have_room, has_room}
use Rattle.room_laws.proofs.laws.short_histories_leave_room.Goals as goal

pub returns-clause-entries : goal.returns-clause-entries
returns-clause-entries c = has_room

pub returns-clause-calls : goal.returns-clause-calls
returns-clause-calls c = few_calls_have_room
