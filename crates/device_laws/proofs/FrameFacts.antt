-- Calls on kept frames that leave which flights and pictures there are.
use Rattle.std.proofs.Common.{ℕ, zero, suc, ◌+◌, ◌-◌, ◌==◌, ◌≡◌, ◌<◌, ◌≤◌, ◌∙◌, ◌⊎◌, inl, inr, Bool, true, false, List, [], ◌∷◌, ◌++◌, Option, Some, None, map, length, refl, sym, ap, subst, arith}
use Rattle.std.specs.Prelude.{cond, drop, slice_get, slice_index_or, slice_set, Result, Ok, Err}
use Rattle.std.specs.List.{AllByRecursion, find}
use Rattle.std.specs.Option.{is_some}
use Rattle.std.proofs.lemmas.Bool.{cases_lt}
use Rattle.std.proofs.lemmas.List.{get_or-drop, map-append}
use Rattle.dev_types.specs.declared.handles.NoMemory.{NoMemory as NoRoom}
use Rattle.tile_claims.specs.declared.seats.Claims.{Claims}
use Rattle.tile_claims.specs.declared.seats.Seat.{Seat}
use Rattle.flight_books.specs.Work.{AreAsked, AreSpent, HandsOut, seats_of}
use Rattle.flight_books.specs.declared.work.Handed.{Handed}
use Rattle.frame_future.specs.Flights.{Flying, IsWorked, back as back_with, key_at}
use Rattle.frame_future.specs.Future.{Finished, Future, IsHandout, asked_for, flight_at, has_ticket, is_picture_of, replaced, shown_by, with_flight, with_flight_at, with_picture}
use Rattle.seq_model.specs.Histories.{History}
use Rattle.seq_model.specs.Refusals.{phase_at}
use Rattle.seq_model.specs.State.{Done}
use Rattle.seq_model.specs.Steps.{after}
use Rattle.device_laws.specs.Flown.{Flown, run_of, runs_of}
use Rattle.device_laws.specs.Renders.{Renders, ShowsRender}
use Rattle.device_laws.specs.SameFrames.{FlightShape, PictureShape, SameFrames, shape_of_flight, shape_of_picture}
use Rattle.device_laws.specs.Standing.{Standing, other_pictures}

-- the first that passes, in whose place stands one that is seen the same
replaced_same : {X Y : Type 0} (g : X → Y) (p : X → Bool) (new x : X) (xs : List X) → find p xs ≡ Some x → g new ≡ g x → map g (replaced p new xs) ≡ map g xs
replaced_same g p new x [] found same = refl
replaced_same {X} {Y} g p new x (y ∷ xs) found same = by (p y) found (λ later. replaced_same g p new x xs later same)
  where
    by : (b : Bool) → cond b (Some y) (find p xs) ≡ Some x → (find p xs ≡ Some x → map g (replaced p new xs) ≡ map g xs) → map g (cond b (new ∷ xs) (y ∷ replaced p new xs)) ≡ g y ∷ map g xs
    by true is rest = let one : y ≡ x = cc in ap (λ z. z ∷ map g xs) (same ∙ ap g (sym one))
    by false is rest = ap (λ zs. g y ∷ zs) (rest is)

pub flight_replaced : (old : Future) (ticket : ℕ) (f g : Flying) → flight_at old ticket ≡ Some f → shape_of_flight g ≡ shape_of_flight f → SameFrames old (with_flight_at old ticket g)
flight_replaced old ticket f g found same = record { flights = replaced_same shape_of_flight (has_ticket ticket) g f old.flights found same; pictures = refl }

pub picture_replaced : (old : Future) (p q : Finished) → shown_by old q.frame ≡ Some p → shape_of_picture q ≡ shape_of_picture p → SameFrames old (with_picture old q)
picture_replaced old p q found same = record { flights = refl; pictures = replaced_same shape_of_picture (is_picture_of q.frame) q p old.pictures found same }

-- lists that are seen the same at each place
map_alike : {X Y : Type 0} (g : X → Y) (xs ys : List X) → length ys ≡ length xs → ((k : ℕ) (d : X) → k < length xs → g (slice_index_or ys k d) ≡ g (slice_index_or xs k d)) → map g ys ≡ map g xs
map_alike g [] [] long same = refl
map_alike g [] (y ∷ ys) long same = absurd (omega (arith, long))
map_alike g (x ∷ xs) [] long same = absurd (omega (arith, long))
map_alike g (x ∷ xs) (y ∷ ys) long same =
    ap (λ z. z ∷ map g ys) (same 0 x (omega arith))
    ∙ ap (λ zs. g x ∷ zs) (map_alike g xs ys (omega (arith, long)) (λ k d less. same (suc k) d (omega (arith, less))))

map_set : {X Y : Type 0} (g : X → Y) (xs : List X) (i : ℕ) (x y : X) → slice_get xs i ≡ Some x → g y ≡ g x → map g (slice_set xs i y) ≡ map g xs
map_set g [] i x y there same = refl
map_set g (z ∷ xs) zero x y there same = let one : z ≡ x = cc in ap (λ w. w ∷ map g xs) (same ∙ ap g (sym one))
map_set g (z ∷ xs) (suc i) x y there same = ap (λ ws. g z ∷ ws) (map_set g xs i x y there same)

-- what a flight keeps that is asked for a seat, all flights keep
module _ {Y : Type 0} (g : Flying → Y) (keeps : (result : Result (Option (Claims × Seat)) NoRoom) (read : ℕ) (f : Flying) → g (asked_for result read f) ≡ g f) where
  handout_same : (f h : Flying) (result : Result (Option (Claims × Seat)) NoRoom) → IsHandout f h result → g h ≡ g f
  handout_same f h result handout = ap g handout.now ∙ keeps result handout.read f

  spent_same : (place : ℕ) (old between : Future) → AreSpent place old.flights between.flights → length between.flights ≡ length old.flights → drop place between.flights ≡ drop place old.flights →
      map g between.flights ≡ map g old.flights
  spent_same place old between spent count behind = map_alike g old.flights between.flights count (λ k d less. by k d (cases_lt k place))
    where
      later : (k : ℕ) (d : Flying) → place + (k - place) ≡ k → slice_index_or between.flights k d ≡ slice_index_or old.flights k d
      later k d at_k =
          ap (λ n. slice_index_or between.flights n d) (sym at_k) ∙ sym (get_or-drop place between.flights (k - place) d)
          ∙ ap (λ fs. slice_index_or fs (k - place) d) behind ∙ get_or-drop place old.flights (k - place) d ∙ ap (λ n. slice_index_or old.flights n d) at_k

      by : (k : ℕ) (d : Flying) → (k < place) ⊎ (place ≤ k) → g (slice_index_or between.flights k d) ≡ g (slice_index_or old.flights k d)
      by k d (inl before) = handout_same (slice_index_or old.flights k d) (slice_index_or between.flights k d) (Ok None) (spent k d before)
      by k d (inr behind_) = ap g (later k d (omega (arith, behind_)))

  hands_same : (old new : Future) (result : Result (Option Handed) NoRoom) → HandsOut old new result → map g new.flights ≡ map g old.flights
  hands_same old new result hands =
      ap (map g) hands.asked.flights
      ∙ map_set g hands.between.flights hands.place hands.asked.before hands.asked.after hands.asked.there (handout_same hands.asked.before hands.asked.after (seats_of result) hands.asked.handout)
      ∙ spent_same hands.place old hands.between hands.spent hands.count hands.behind

  pub asked_flights : (old new : Future) (result : Result (Option Handed) NoRoom) → AreAsked old new result → map g new.flights ≡ map g old.flights
  asked_flights old new (Ok None) spent =
      map_alike g old.flights new.flights spent.count
      (λ k d less. handout_same (slice_index_or old.flights k d) (slice_index_or new.flights k d) (Ok None) (spent.spent k d less))
  asked_flights old new (Ok (Some h)) hands = hands_same old new (Ok (Some h)) hands
  asked_flights old new (Err e) hands = hands_same old new (Err e) hands

asked_pictures : (old new : Future) (result : Result (Option Handed) NoRoom) → AreAsked old new result → new.pictures ≡ old.pictures
asked_pictures old new (Ok None) spent = spent.pictures
asked_pictures old new (Ok (Some h)) hands = hands.asked.pictures ∙ hands.pictures
asked_pictures old new (Err e) hands = hands.asked.pictures ∙ hands.pictures

asked_shape : (result : Result (Option (Claims × Seat)) NoRoom) (read : ℕ) (f : Flying) → shape_of_flight (asked_for result read f) ≡ shape_of_flight f
asked_shape (Ok (Some out)) read f = refl
asked_shape (Ok None) read f = refl
asked_shape (Err none) read f = refl

pub asking_leaves : (old new : Future) (result : Result (Option Handed) NoRoom) → AreAsked old new result → SameFrames old new
asking_leaves old new result asked = record {
  flights = asked_flights shape_of_flight asked_shape old new result asked;
  pictures = ap (map shape_of_picture) (asked_pictures old new result asked);
}

-- what stood stands
pub there : {X Y : Type 0} (P : Y → Type 0) (f : X → Y) (xs : List X) → AllByRecursion (λ x. P (f x)) xs → AllByRecursion P (map f xs)
there P f [] all = tt
there P f (x ∷ xs) all = (all.0, there P f xs all.1)

pub back : {X Y : Type 0} (P : Y → Type 0) (f : X → Y) (xs : List X) → AllByRecursion P (map f xs) → AllByRecursion (λ x. P (f x)) xs
back P f [] all = tt
back P f (x ∷ xs) all = (all.0, back P f xs all.1)

runs_in : (fs : List Flying) → runs_of fs ≡ map (λ (s : FlightShape). s.run) (map shape_of_flight fs)
runs_in [] = refl
runs_in (f ∷ fs) = ap (λ rs. run_of f ∷ rs) (runs_in fs)

pub same_runs : (old new : Future) → SameFrames old new → runs_of new.flights ≡ runs_of old.flights
same_runs old new same = runs_in new.flights ∙ ap (map (λ (s : FlightShape). s.run)) same.flights ∙ sym (runs_in old.flights)

found_in : (h : ℕ) (ps : List Finished) → is_some (find (is_picture_of h) ps) ≡ is_some (find (λ (s : PictureShape). s.frame == h) (map shape_of_picture ps))
found_in h [] = refl
found_in h (p ∷ ps) = by (p.frame == h) (found_in h ps)
  where
    by : (b : Bool) → is_some (find (is_picture_of h) ps) ≡ is_some (find (λ (s : PictureShape). s.frame == h) (map shape_of_picture ps)) →
        is_some (cond b (Some p) (find (is_picture_of h) ps)) ≡ is_some (cond b (Some (shape_of_picture p)) (find (λ (s : PictureShape). s.frame == h) (map shape_of_picture ps)))
    by true rest = refl
    by false rest = rest

pub same_flown : (history : History) (old new : Future) → SameFrames old new → Flown history (runs_of old.flights) → Flown history (runs_of new.flights)
same_flown history old new same flown = subst (Flown history) (sym (same_runs old new same)) flown

pub same_stands : (history : History) (old new : Future) → SameFrames old new → Standing history (runs_of old.flights) old.pictures → Standing history (runs_of new.flights) new.pictures
same_stands history old new same standing = record {
  stopped = (subst (λ runs. Standing history runs old.pictures) (sym (same_runs old new same)) standing).stopped;
  shown =
      back (λ (s : PictureShape). phase_at (after history) s.frame ≡ Done s.ticket) shape_of_picture new.pictures
      (subst (AllByRecursion (λ (s : PictureShape). phase_at (after history) s.frame ≡ Done s.ticket)) (sym same.pictures)
      (there (λ (s : PictureShape). phase_at (after history) s.frame ≡ Done s.ticket) shape_of_picture old.pictures standing.shown));
  done = λ h t is. found_in h new.pictures ∙ ap (λ ss. is_some (find (λ (s : PictureShape). s.frame == h) ss)) same.pictures ∙ sym (found_in h old.pictures) ∙ standing.done h t is;
}

pub same_renders : (history : History) (old new : Future) → SameFrames old new → Renders history old → Renders history new
same_renders history old new same renders = record {
  flights =
      back (λ (s : FlightShape). ShowsRender history s.run.ticket s.key s.channels) shape_of_flight new.flights
      (subst (AllByRecursion (λ (s : FlightShape). ShowsRender history s.run.ticket s.key s.channels)) (sym same.flights)
      (there (λ (s : FlightShape). ShowsRender history s.run.ticket s.key s.channels) shape_of_flight old.flights renders.flights));
  pictures =
      back (λ (s : PictureShape). ShowsRender history s.ticket s.key s.channels) shape_of_picture new.pictures
      (subst (AllByRecursion (λ (s : PictureShape). ShowsRender history s.ticket s.key s.channels)) (sym same.pictures)
      (there (λ (s : PictureShape). ShowsRender history s.ticket s.key s.channels) shape_of_picture old.pictures renders.pictures));
}

-- a seat that comes back, and a flight that begins
pub back_same : (old : Future) (ticket : ℕ) (f : Flying) (seat : Seat) → flight_at old ticket ≡ Some f → IsWorked f seat → SameFrames old (with_flight_at old ticket (back_with seat f))
back_same old ticket f seat found worked =
    flight_replaced old ticket f (back_with seat f) found
    (ap (λ stop. record { run = record { ticket = f.ticket; frame = f.frame; stopped = is_some stop }; key = key_at f; channels = f.channels }) worked.stop)

pub begun_runs : (old : Future) (flight : Flying) →
    (runs_of (with_flight old flight).flights ≡ runs_of old.flights ++ run_of flight ∷ []) × ((with_flight old flight).pictures ≡ other_pictures flight.frame old.pictures)
begun_runs old flight = (map-append run_of old.flights (flight ∷ []), refl)
