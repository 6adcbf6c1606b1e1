-- How flights end.
use Rattle.std.specs.Prelude.{◌≡◌, ℕ, ◌+◌, ◌≤◌, ◌<◌, List, [], ◌∷◌, ◌++◌, Some, drop, length, slice_index_or, if◌then◌else◌}
use Rattle.std.specs.List.{slice_get}
use Rattle.tile_claims.specs.Views.{IsAlone}
use Rattle.frame_future.specs.Flights.{Flying, awaited, is_stopped, looked_at, HasEnded}
use Rattle.frame_future.specs.Future.{Future, finished}
use Rattle.frame_future.specs.declared.phase.Ended.{Ended}

-- A flight that does not end by a look at all flights above a ticket: it was looked at and is not over, or it is not above. Of one that only its
-- first seat worked on the look reads exactly how many tiles that seat gave
pub record StaysOpen (after : ℕ) (f g : Flying) : Type 0 where
  pub below : f.ticket ≤ after → g ≡ f
  pub looked : after < f.ticket → g ≡ looked_at g.looked f
  pub rises : after < f.ticket → f.view.gives.last ≤ g.looked
  pub alone : after < f.ticket → IsAlone f.view → g.looked ≡ length f.view.given
  pub waits : after < f.ticket → g.looked < awaited f

-- so it is of the first `count` flights
abbrev pub StayOpen : ℕ → ℕ → List Flying → List Flying → Type 0
StayOpen after count old new = (k : ℕ) (d : Flying) → k < count → StaysOpen after (slice_index_or old k d) (slice_index_or new k d)

-- no flight ended
pub record NoneEnds (after : ℕ) (old new : Future) : Type 0 where
  pub stay : StayOpen after (length old.flights) old.flights new.flights
  pub count : length new.flights ≡ length old.flights
  pub pictures : new.pictures ≡ old.pictures

-- A flight ended: the first above the ticket of which a look of its first seat showed that as many tiles are given as it waits for. It is gone,
-- and where it was not stopped its picture is there
pub record Ends (after : ℕ) (old new : Future) (e : Ended) : Type 0 where
  pub place : ℕ
  pub looked : List Flying
  pub last : Flying
  pub there : slice_get old.flights place ≡ Some last
  pub above : after < last.ticket
  pub earlier : StayOpen after place old.flights looked
  pub count : length looked ≡ place
  pub shown : HasEnded (looked_at (awaited last) last)
  pub rises : last.view.gives.last ≤ awaited last
  pub alone : IsAlone last.view → awaited last ≡ length last.view.given
  pub ticket : e.ticket ≡ last.ticket
  pub left : e.left ≡ is_stopped last
  pub flights : new.flights ≡ looked ++ drop (place + 1) old.flights
  pub pictures : new.pictures ≡ (if is_stopped last then old.pictures else old.pictures ++ finished last ∷ [])

-- the flight is the last that is looked at: the look shows its end
pub record IsLast (after : ℕ) (f g : Flying) : Type 0 where
  pub above : after < f.ticket
  pub looked : g ≡ looked_at (awaited f) f
  pub rises : f.view.gives.last ≤ awaited f
  pub alone : IsAlone f.view → awaited f ≡ length f.view.given
  pub shown : HasEnded g

-- a look leaves what a flight is of
pub record IsAlike (f g : Flying) : Type 0 where
  pub ticket : g.ticket ≡ f.ticket
  pub frame : g.frame ≡ f.frame
  pub stop : is_stopped g ≡ is_stopped f

abbrev pub AreAlike : List Flying → List Flying → Type 0
AreAlike old new = (k : ℕ) (d : Flying) → k < length old → IsAlike (slice_index_or old k d) (slice_index_or new k d)

-- it stands at a place among the flights, and those behind it were not looked at
pub record EndsAt (after : ℕ) (old new : List Flying) (place : ℕ) : Type 0 where
  pub last : Flying
  pub now : Flying
  pub within : place < length old
  pub there : last ≡ slice_index_or old place last
  pub here : now ≡ slice_index_or new place now
  pub ends : IsLast after last now
  pub earlier : StayOpen after place old new
  pub behind : drop (place + 1) new ≡ drop (place + 1) old
