-- What looks at flights read, and what becomes of the flights by it.
use Rattle.std.specs.Prelude.{⊤, ◌≡◌, ◌==◌, ℕ, ◌≤◌, ◌<◌, Bool, List, [], ◌∷◌, ◌++◌, Option, Some, None, IfSome, length, if◌then◌else◌}
use Rattle.std.specs.List.{AllByRecursion}
use Rattle.std.specs.Option.{IsSomeAnd}
use Rattle.tile_claims.specs.Views.{IsAlone}
use Rattle.frame_future.specs.Flights.{Flying, awaited, is_stopped, looked_at, HasEnded}
use Rattle.frame_future.specs.Future.{Finished, Future, finished, flight_at}
use Rattle.frame_future.specs.declared.phase.Ended.{Ended}

-- a number of given tiles read for a flight: no less than its last look read, and no more than it waits for; of a flight that only its first seat
-- worked on it is how many tiles that seat gave
pub record IsRead (f : Flying) (read : ℕ) : Type 0 where
  pub rises : f.view.gives.last ≤ read
  pub within : read ≤ awaited f
  pub alone : IsAlone f.view → read ≡ length f.view.given

-- one for each flight
abbrev pub AreRead : List Flying → List ℕ → Type 0
AreRead [] [] = ⊤
AreRead [] (read ∷ reads) = ⊥
AreRead (f ∷ fs) [] = ⊥
AreRead (f ∷ fs) (read ∷ reads) = IsRead f read × AreRead fs reads

-- the look shows the flight's end
abbrev pub is_end : Flying → ℕ → Bool
is_end f read = read == awaited f

-- the flights that such looks leave, and those that they end, each as its look saw it
abbrev pub left_by : List Flying → List ℕ → List Flying
left_by (f ∷ fs) (read ∷ reads) = if is_end f read then left_by fs reads else looked_at read f ∷ left_by fs reads
left_by _ _ = []

abbrev pub ended_by : List Flying → List ℕ → List Flying
ended_by (f ∷ fs) (read ∷ reads) = if is_end f read then looked_at read f ∷ ended_by fs reads else ended_by fs reads
ended_by _ _ = []

-- the pictures of those flights that were not stopped
abbrev pub pictures_of : List Flying → List Finished
pictures_of [] = []
pictures_of (f ∷ fs) = if is_stopped f then pictures_of fs else finished f ∷ pictures_of fs

-- what ended, of flights that were seen, and of those behind them: nothing, and all were seen; or the last that was seen
abbrev pub IsEnd : Option Ended → List Flying → List Flying → List Flying → Type 0
IsEnd None seen behind over = (over ≡ []) × (behind ≡ [])
IsEnd (Some e) seen behind over =
    (f : Flying) × (over ≡ f ∷ []) × HasEnded f × (e.ticket ≡ f.ticket) × (e.left ≡ is_stopped f)
    × AllByRecursion (λ g. g.ticket ≤ f.ticket) seen × AllByRecursion (λ g. f.ticket < g.ticket) behind

-- what ended is the flight of the ticket, as its last look saw it
abbrev pub WasEnded : Future → List Flying → Option Ended → Type 0
WasEnded old over result = IfSome result (λ e. IsSomeAnd (flight_at old e.ticket) (λ f. over ≡ looked_at (awaited f) f ∷ []))

-- The flights above a ticket were looked at up to the first that ended: the flights that are not above were passed over, those that were seen
-- were read once each, and those behind them not yet
pub record AreSeen (after : ℕ) (old new : Future) (result : Option Ended) : Type 0 where
  pub passed : List Flying
  pub seen : List Flying
  pub behind : List Flying
  pub reads : List ℕ
  pub there : old.flights ≡ passed ++ (seen ++ behind)
  pub below : AllByRecursion (λ f. f.ticket ≤ after) passed
  pub above : AllByRecursion (λ f. after < f.ticket) (seen ++ behind)
  pub read : AreRead seen reads
  pub flights : new.flights ≡ passed ++ (left_by seen reads ++ behind)
  pub pictures : new.pictures ≡ old.pictures ++ pictures_of (ended_by seen reads)
  pub over : IsEnd result seen behind (ended_by seen reads)
  pub was : WasEnded old (ended_by seen reads) result
