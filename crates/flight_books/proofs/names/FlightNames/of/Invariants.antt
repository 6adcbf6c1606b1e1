use Rattle.flight_books.proofs.names.FlightNames.of.Given as goal

abbrev pub ghost-any : goal.ghost-any
ghost-any g a = g.list
