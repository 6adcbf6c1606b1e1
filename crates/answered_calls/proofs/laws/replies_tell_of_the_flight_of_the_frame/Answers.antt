use Rattle.answered_calls.proofs.SeenTiles.{answer_tells}
use Rattle.answered_calls.proofs.laws.replies_tell_of_the_flight_of_the_frame.Goals as goal

pub returns : goal.returns
returns c = answer_tells
