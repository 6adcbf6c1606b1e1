use Rattle.flight_books.proofs.EndLaws.{given_ends}
use Rattle.flight_books.proofs.laws.a_given_flight_ends.Goals as goal

pub returns : goal.returns
returns g c = given_ends
