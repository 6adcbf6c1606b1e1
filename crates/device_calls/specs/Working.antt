-- Work that is taken of the flights, and what was done with it.
use Rattle.std.specs.Prelude.{◌≡◌, ℕ, true, false, [], ◌∷◌, None}
use Rattle.device_calls.specs.declared.work.Worked.{Worked}
use Rattle.device_calls.specs.declared.work.Worked.TheVariants as worked
use Rattle.device_parts.specs.declared.works.Handout.{Handout}
use Rattle.device_parts.specs.declared.works.Handout.TheVariants as handout
use Rattle.device_parts.specs.declared.works.Idle.{Idle}
use Rattle.picture_model.specs.Limits.{IsSceneWithin}
use Rattle.seq_model.specs.Histories.{History}
use Rattle.seq_model.specs.Life.{has}
use Rattle.seq_model.specs.Pictures.{scene_at}
use Rattle.seq_model.specs.State.{flights}
use Rattle.seq_model.specs.Steps.{after}
use Rattle.tile_claims.specs.Parts.{scene_of}
use Rattle.tile_claims.specs.Seats.{IsSeatOf, key_of, view}
use Rattle.tile_claims.specs.declared.seats.Claims.{Claims}
use Rattle.tile_claims.specs.declared.seats.Seat.{Seat}
use Rattle.world_snapshot.specs.Works.{scene_of_work}
use Rattle.world_snapshot.specs.declared.works.Work.{Work}

-- Work of a flight of a history: another seat of claims of the scene of its render, within the limits of
-- pictures, with which nothing was done yet
pub record IsWork (history : History) (ticket : ℕ) (work : Work) : Type 0 where
  pub flies : has ticket (flights (after history).state) ≡ true
  pub seat : IsSeatOf work.claims work.seat
  pub key : scene_of (key_of work.claims) ≡ scene_of_work work
  pub scene : scene_of_work work ≡ scene_at history ticket
  pub within : IsSceneWithin (scene_of_work work)
  pub idle : (view work.seat).opened ≡ None
  pub in_time : (view work.seat).late ≡ false
  pub none_given : (view work.seat).given ≡ []

-- there is none: the tickets are those of all flights of the history
abbrev pub IsIdle : History → Idle → Type 0
IsIdle history idle = (t : ℕ) → has t idle.tickets.items ≡ has t (flights (after history).state)

-- what is answered to whoever asks for work
abbrev pub IsHandout : History → Handout → Type 0
IsHandout history (handout.Work t work) = IsWork history t work
IsHandout history (handout.Idle idle) = IsIdle history idle

-- A seat gave one tile of a flight of the history, and is of claims of the scene of its render
pub record HasGiven (history : History) (ticket : ℕ) (seat : Seat) : Type 0 where
  pub flies : has ticket (flights (after history).state) ≡ true
  pub claims : Claims
  pub of_claims : IsSeatOf claims seat
  pub scene : scene_of (key_of claims) ≡ scene_at history ticket
  pub tile : ℕ
  pub one : (view seat).given ≡ tile ∷ []

-- what whoever helps has done
abbrev pub HasWorked : History → Worked → Type 0
HasWorked history (worked.Gave t seat) = HasGiven history t seat
HasWorked history (worked.Idle idle) = IsIdle history idle
