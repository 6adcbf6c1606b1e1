use Rattle.flight_tests.proofs.tiles.naming.Given as goal

abbrev pub ghost-of : goal.ghost-of
ghost-of a = a._about.now
