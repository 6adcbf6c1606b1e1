use Rattle.flight_books.proofs.WorkLaws.{flights_asked}
use Rattle.flight_books.proofs.laws.flights_that_are_asked_stay.Goals as goal

pub returns : goal.returns
returns c = flights_asked
