use Rattle.flight_books.proofs.EndLaws.{unworked_stay}
use Rattle.flight_books.proofs.laws.unworked_flights_stay.Goals as goal

pub returns : goal.returns
returns g c = unworked_stay
