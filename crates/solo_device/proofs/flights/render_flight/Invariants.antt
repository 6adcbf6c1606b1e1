use Rattle.std.proofs.Common.{◌-◌, length}
use Rattle.tile_claims.specs.Parts.{tiles_of}
use Rattle.tile_claims.specs.Seats.{key_of, view}
use Rattle.solo_device.specs.Rendering.{IsRendering}
use Rattle.solo_device.proofs.flights.render_flight.Given as goal

abbrev pub invariant-loop-claim : goal.invariant-loop-claim
invariant-loop-claim l = IsRendering l.fn.work l.work

abbrev pub decreases-loop-claim : goal.decreases-loop-claim
decreases-loop-claim l = tiles_of (key_of l.work.claims) - length (view l.work.seat).given
