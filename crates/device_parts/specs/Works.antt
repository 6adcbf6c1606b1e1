-- Work that is taken: another seat of the first flight that has one, with the scene of its render.
use Rattle.std.specs.Prelude.{◌≡◌, ◌⊎◌, ℕ, ◌+◌, ◌<◌, ◌≤◌, ◌^◌, List, Option, Some, None, Result, Ok, Err, drop, length, map, slice_index_or, slice_set}
use Rattle.std.specs.List.{slice_get}
use Rattle.dev_types.specs.declared.handles.NoMemory.{NoMemory as NoRoom}
use Rattle.frame_future.specs.Flights.{Flying, key_at}
use Rattle.picture_model.specs.Limits.{IsSceneWithin}
use Rattle.seq_model.specs.Histories.{History}
use Rattle.seq_model.specs.Pictures.{scene_at}
use Rattle.tile_claims.specs.Parts.{scene_of, tiles_of}
use Rattle.tile_claims.specs.Seats.{frame_of, key_of, view, IsSeatOf}
use Rattle.tile_claims.specs.Views.{beside}
use Rattle.world_snapshot.specs.Works.{scene_of_work}
use Rattle.world_snapshot.specs.declared.works.Work.{Work}
use Rattle.device_parts.specs.AllParts.{Inside}
use Rattle.device_parts.specs.declared.works.Handout.{Handout}
use Rattle.device_parts.specs.declared.works.Handout.TheVariants as handout
use Rattle.device_parts.specs.declared.works.Taken.{Taken}

-- a flight at whose count of claimed tiles its first seat looked, and did nothing else
abbrev pub OnlyLooks : Flying → Flying → Type 0
OnlyLooks f g = g ≡ record f { view = record f.view { claims = g.view.claims } }

-- A flight that has no work: its first seat looked, and the last look read all its tiles as claimed, or
-- 2^20 seats of it were handed out
pub record IsSpent (f g : Flying) : Type 0 where
  pub looks : OnlyLooks f g
  pub looked : f.view.claims.count < g.view.claims.count
  pub rises : f.view.claims.last ≤ g.view.claims.last
  pub spent : (tiles_of (key_at f) ≤ g.view.claims.last) ⊎ (f.view.splits ≡ 2 ^ 20)

-- A flight that hands out work: the last look read that not all its tiles were claimed, and its first
-- seat split off another, which knows nothing yet; the work is of the scene of the flight's render,
-- within the limits of pictures
pub record IsWorkFrom (history : History) (f g : Flying) (work : Work) : Type 0 where
  pub now : g ≡ record f { view = record f.view { claims = g.view.claims; splits = f.view.splits + 1 } }
  pub looked : f.view.claims.count < g.view.claims.count
  pub rises : f.view.claims.last ≤ g.view.claims.last
  pub some : g.view.claims.last < tiles_of (key_at f)
  pub few : f.view.splits ≡ 2 ^ 20 → ⊥
  pub claims : frame_of work.claims ≡ f.tiles
  pub seat : IsSeatOf work.claims work.seat
  pub fresh : view work.seat ≡ beside f.view
  pub key : scene_of (key_of work.claims) ≡ scene_of_work work
  pub scene : scene_of_work work ≡ scene_at history f.ticket
  pub within : IsSceneWithin (scene_of_work work)

-- of the flight at a place this became, and all else stayed
pub record MovesAt (place : ℕ) (P : Flying → Flying → Type 0) (old new : Inside) : Type 0 where
  pub before : Flying
  pub after : Flying
  pub there : slice_get old.flights.future.flights place ≡ Some before
  pub moves : P before after
  pub flights : new.flights.future.flights ≡ slice_set old.flights.future.flights place after
  pub pictures : new.flights.future.pictures ≡ old.flights.future.pictures
  pub cargo : new.flights.cargo ≡ old.flights.cargo
  pub over : new.flights.over ≡ old.flights.over
  pub rest : new ≡ record old { flights = new.flights }

-- what became of a flight that was asked for work
abbrev pub AnswersFor : History → Result (Option Taken) NoRoom → Flying → Flying → Type 0
AnswersFor history (Ok None) f g = IsSpent f g
AnswersFor history (Ok (Some taken)) f g = (taken.ticket ≡ f.ticket) × IsWorkFrom history f g taken.work
AnswersFor history (Err e) f g = OnlyLooks f g

-- the flights that stand first have no work
abbrev pub AreSpent : ℕ → List Flying → List Flying → Type 0
AreSpent count old new = (k : ℕ) (d : Flying) → k < count → IsSpent (slice_index_or old k d) (slice_index_or new k d)

-- the flights before a place have no work; that at the place was asked last
pub record AsksUpTo (place : ℕ) (result : Result (Option Taken) NoRoom) (old new : Inside) : Type 0 where
  pub between : Inside
  pub spent : AreSpent place old.flights.future.flights between.flights.future.flights
  pub count : length between.flights.future.flights ≡ length old.flights.future.flights
  pub behind : drop place between.flights.future.flights ≡ drop place old.flights.future.flights
  pub asked : MovesAt place (AnswersFor old.history result) between new

-- flights were asked for work, by rising ticket, up to the first that has some
abbrev pub AsksFlights : Result (Option Taken) NoRoom → Inside → Inside → Type 0
AsksFlights (Ok None) old new = AreSpent (length old.flights.future.flights) old.flights.future.flights new.flights.future.flights
AsksFlights result old new = (place : ℕ) × AsksUpTo place result old new

-- what is answered, by what the flights had: work; or, where none had any, the tickets of all. Else there
-- was no memory, and no seat was handed out
abbrev pub IsAnswered : Result (Option Taken) NoRoom → List Flying → Result Handout NoRoom → Type 0
IsAnswered taken flights (Ok (handout.Work t work)) = taken ≡ Ok (Some (record { ticket = t; work = work }))
IsAnswered taken flights (Ok (handout.Idle idle)) = (taken ≡ Ok None) × (idle.tickets.items ≡ map (λ f. f.ticket) flights)
IsAnswered taken flights (Err e) = (t : Taken) → taken ≡ Ok (Some t) → ⊥

-- work was taken of the flights; nothing else changed
pub record TakesWork (result : Result Handout NoRoom) (old new : Inside) : Type 0 where
  pub taken : Result (Option Taken) NoRoom
  pub asked : AsksFlights taken old new
  pub answer : IsAnswered taken new.flights.future.flights result
  pub count : length new.flights.future.flights ≡ length old.flights.future.flights
  pub pictures : new.flights.future.pictures ≡ old.flights.future.pictures
  pub cargo : new.flights.cargo ≡ old.flights.cargo
  pub over : new.flights.over ≡ old.flights.over
  pub rest : new ≡ record old { flights = new.flights }
