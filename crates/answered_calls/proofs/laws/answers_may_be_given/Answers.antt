use Rattle.answered_calls.proofs.SeenTiles.{may_be_given, of_all_flights}
use Rattle.answered_calls.proofs.laws.answers_may_be_given.Goals as goal

pub returns : goal.returns
returns c = λ past call r tiles is. may_be_given past call r (of_all_flights past call tiles) is
