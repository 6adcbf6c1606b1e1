use Rattle.std.proofs.Common.{◌≡◌, arith, subst}
use Rattle.tile_claims.specs.Parts.{AreRows}
use Rattle.tile_claims.specs.Seats.{key_of, tile_of, pixels_of}
use Rattle.tile_claims.proofs.RowLaws.{rows_all}
use Rattle.flight_tests.proofs.flights.fill.Goals as goal

pub returns-clause-ready : goal.returns-clause-ready
returns-clause-ready c =
    let key = key_of c.args.claims.now in
    let claim = c.loop-channel.claim in
    let of = c.loop-channel.invariant.0 in
    let all : c.loop-channel.channel ≡ 4 = omega arith in
    rows_all key (tile_of claim) (pixels_of claim) of.sized of.whole (subst (λ channel. AreRows key (tile_of claim) (pixels_of claim) channel 0) all c.loop-channel.invariant.2)
