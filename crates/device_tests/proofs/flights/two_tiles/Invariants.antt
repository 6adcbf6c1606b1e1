use Rattle.device_tests.proofs.flights.two_tiles.Given as goal

abbrev pub ghost-of : goal.ghost-of
ghost-of a = a._about.now
