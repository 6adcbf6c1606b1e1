-- All flights are stopped.
use Rattle.std.specs.Prelude.{⊤, ◌≡◌, ◌⊎◌, ℕ, ◌<◌, Bool, true, false, List, [], ◌∷◌, Option, Some, None, length, slice_index_or}
use Rattle.std.specs.List.{AllByRecursion, slice_get}
use Rattle.frame_future.specs.Flights.{Flying, is_stopped}
use Rattle.frame_future.specs.Future.{Future, flight_of, with_flight_of, IsStop}
use Rattle.flight_books.specs.declared.kept.Cargo.{Cargo}
use Rattle.flight_books.specs.Kept.{Books}

-- a flight when all are stopped: one that was stopped before stays as it is
abbrev pub HaltsBy : Bool → Flying → Flying → Type 0
HaltsBy true f g = g ≡ f
HaltsBy false f g = IsStop f g

-- one for each flight
abbrev pub AreHalted : List Flying → List Flying → Type 0
AreHalted [] [] = ⊤
AreHalted [] (g ∷ gs) = ⊥
AreHalted (f ∷ fs) [] = ⊥
AreHalted (f ∷ fs) (g ∷ gs) = HaltsBy (is_stopped f) f g × AreHalted fs gs

-- all flights were stopped; all else stays
pub record StopsAll {T : Type 0} (old new : Books T) : Type 0 where
  pub flights : AreHalted old.future.flights new.future.flights
  pub stopped : AllByRecursion (λ f. is_stopped f ≡ true) new.future.flights
  pub count : length new.future.flights ≡ length old.future.flights
  pub pictures : new.future.pictures ≡ old.future.pictures
  pub cargo : new.cargo ≡ old.cargo
  pub over : new.over ≡ old.over

-- the frame's flight was stopped, if it has one
abbrev pub StopsFlight : ℕ → Future → Future → Option Flying → Type 0
StopsFlight frame old new (Some f) = (g : Flying) × IsStop f g × (new ≡ with_flight_of old frame g)
StopsFlight frame old new None = new ≡ old

-- the flight at a place was stopped, if it was not before
pub record StopsAt {T : Type 0} (place : ℕ) (old new : Books T) : Type 0 where
  pub kept : Cargo T
  pub there : slice_get old.cargo place ≡ Some kept
  pub stops : StopsFlight kept.frame old.future new.future (flight_of old.future kept.frame)
  pub none : flight_of new.future kept.frame ≡ None
  pub cargo : new.cargo ≡ old.cargo
  pub over : new.over ≡ old.over

-- some of the flights were stopped
abbrev pub AreHalting : List Flying → List Flying → Type 0
AreHalting [] [] = ⊤
AreHalting [] (g ∷ gs) = ⊥
AreHalting (f ∷ fs) [] = ⊥
AreHalting (f ∷ fs) (g ∷ gs) = ((g ≡ f) ⊎ ((is_stopped f ≡ false) × IsStop f g)) × AreHalting fs gs

-- the frames with whose flights the first is kept have no flight that was not stopped
abbrev pub NoneFlies : {T : Type 0} → ℕ → Future → List (Cargo T) → Type 0
NoneFlies {T} count s cargo = (k : ℕ) (d : Cargo T) → k < count → flight_of s (slice_index_or cargo k d).frame ≡ None
