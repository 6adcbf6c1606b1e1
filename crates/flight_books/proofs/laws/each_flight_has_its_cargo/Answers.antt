use Rattle.flight_books.proofs.PairLaws.{cargo_booked, flight_booked, frame_booked, ticket_booked}
use Rattle.flight_books.proofs.laws.each_flight_has_its_cargo.Goals as goal

pub returns-clause-flights : goal.returns-clause-flights
returns-clause-flights g c = flight_booked

pub returns-clause-cargo : goal.returns-clause-cargo
returns-clause-cargo g c = cargo_booked

pub returns-clause-tickets : goal.returns-clause-tickets
returns-clause-tickets g c = ticket_booked

pub returns-clause-frames : goal.returns-clause-frames
returns-clause-frames g c = frame_booked
