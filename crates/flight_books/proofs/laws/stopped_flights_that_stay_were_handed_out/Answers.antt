use Rattle.flight_books.proofs.EndLaws.{alone_end, stopped_stay}
use Rattle.flight_books.proofs.laws.stopped_flights_that_stay_were_handed_out.Goals as goal

pub returns-clause-stay : goal.returns-clause-stay
returns-clause-stay g c = stopped_stay

pub returns-clause-none : goal.returns-clause-none
returns-clause-none g c = alone_end
