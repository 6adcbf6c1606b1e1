-- The work of a flight, under way at its first seat.
use Rattle.std.specs.Prelude.{◌≡◌}
use Rattle.tile_claims.specs.Seats.{IsSameSeat, IsSeatOf, view}
use Rattle.world_snapshot.specs.declared.works.Work.{Work}

-- the seat gave tiles, of which none is open, and nothing else changed
pub record IsRendering (old now : Work) : Type 0 where
  pub rest : now ≡ record old { seat = now.seat }
  pub seat : IsSeatOf now.claims now.seat
  pub same : IsSameSeat old.seat now.seat
  pub knows : view now.seat ≡ record (view old.seat) { given = (view now.seat).given }
