use Rattle.tile_claims.proofs.seats.Claims.collect.Given as goal

abbrev pub ghosts-take_out : goal.ghosts-take_out
ghosts-take_out a = record { tile = a.tile }
