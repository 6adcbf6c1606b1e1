-- A flight whose work is lent.
use Rattle.std.specs.Prelude.{◌≡◌, ℕ, Bool, false, Some}
use Rattle.std.specs.Option.{is_none}
use Rattle.flight_books.specs.declared.kept.Cargo.{Cargo}
use Rattle.frame_future.specs.Flights.{Flying, IsOfFlight, IsWorked, away, back}
use Rattle.frame_future.specs.Future.{AreHome, flight_at, flight_of, with_flight_at}
use Rattle.picture_model.specs.Limits.{IsSceneWithin}
use Rattle.seq_model.specs.Pictures.{scene_at}
use Rattle.tile_claims.specs.Parts.{scene_of}
use Rattle.tile_claims.specs.Seats.{key_of, view}
use Rattle.world_snapshot.specs.Works.{scene_of_work}
use Rattle.world_snapshot.specs.declared.works.Work.{Work}
use Rattle.device_parts.specs.AllParts.{Inside}
use Rattle.device_parts.specs.declared.loads.Load.{Load}

-- its work is lent
abbrev pub is_lent : Cargo Load → Bool
is_lent c = is_none c.kept.scene

-- The flight of frame h was lent: this is its work, its own claims with their first seat as it was, and
-- the scene of its render, within the limits of pictures. All else stayed
pub record HasLentFlight (h : ℕ) (old new : Inside) (work : Work) : Type 0 where
  pub flight : Flying
  pub there : flight_of old.flights.future h ≡ Some flight
  pub claims : IsOfFlight flight work.claims work.seat
  pub seat : view work.seat ≡ flight.view
  pub key : scene_of (key_of work.claims) ≡ scene_of_work work
  pub scene : scene_of_work work ≡ scene_at old.history flight.ticket
  pub within : IsSceneWithin (scene_of_work work)
  pub away : new.flights.future ≡ with_flight_at old.flights.future flight.ticket (away flight)
  pub over : new.flights.over ≡ old.flights.over
  pub rest : new ≡ record old { flights = new.flights }

-- This is the work of the one flight that is lent: its claims, its scene, and its first seat, at which
-- no tile is open, and which has split off no seat, has not stopped and has collected nothing since
pub record IsLentFlight (i : Inside) (work : Work) : Type 0 where
  pub flight : Flying
  pub there : flight_at i.flights.future flight.ticket ≡ Some flight
  pub away : flight.home ≡ false
  pub others : AreHome (with_flight_at i.flights.future flight.ticket (back work.seat flight))
  pub claims : IsOfFlight flight work.claims work.seat
  pub worked : IsWorked flight work.seat
  pub key : scene_of (key_of work.claims) ≡ scene_of_work work
  pub scene : scene_of_work work ≡ scene_at i.history flight.ticket

-- the flight that was lent is back, and knows what its first seat came to know; all else stayed
pub record HasReturned (old new : Inside) (work : Work) : Type 0 where
  pub flight : (f : Flying) → flight_at old.flights.future f.ticket ≡ Some f → f.home ≡ false
      → new.flights.future ≡ with_flight_at old.flights.future f.ticket (back work.seat f)
  pub over : new.flights.over ≡ old.flights.over
  pub rest : new ≡ record old { flights = new.flights }
