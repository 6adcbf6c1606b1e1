-- What is kept of frames, as entries are added to a history.
use Rattle.std.proofs.Common.{ℕ, ◌==◌, ◌≡◌, ◌∙◌, ◌⊎◌, inl, inr, not, Bool, true, false, List, [], ◌∷◌, Option, Some, None, refl, sym, ap, subst}
use Rattle.std.specs.Prelude.{cond, ◌&&◌, ◌||◌}
use Rattle.std.specs.List.{AllByRecursion, find}
use Rattle.std.specs.Option.{is_some, option_map_or}
use Rattle.std.proofs.lemmas.Bool.{eq-eqb, eqb-true, or_cases, or_left, or_right}
use Rattle.frame_future.specs.Flights.{Flying, is_stopped}
use Rattle.frame_future.specs.Future.{Finished, Future, flight_of, is_flight_of, is_picture_of, phase_by, phase_of, shown_by}
use Rattle.past_laws.proofs.FlightFacts.{flights_have}
use Rattle.seq_model.proofs.Flights.{own_tickets, stopped_is_unseen}
use Rattle.seq_model.proofs.Keys.{some_passes}
use Rattle.seq_model.specs.Histories.{History, frame_at}
use Rattle.seq_model.specs.Legal.{is_flying}
use Rattle.seq_model.specs.Life.{has}
use Rattle.seq_model.specs.Refusals.{phase_at}
use Rattle.seq_model.specs.State.{Object, Phase, Empty, Flight, Done, flights, is_in_flight, object_at}
use Rattle.seq_model.specs.Steps.{after}
use Rattle.seq_model.specs.Tickets.{ticket_of}
use Rattle.device_laws.proofs.PhaseFacts.{flying_phase}
use Rattle.device_laws.specs.Flown.{Flown, IsRun, Run, run_of, runs_of, tickets_in}
use Rattle.device_laws.specs.Showings.{is_flight}
use Rattle.device_laws.specs.Standing.{Standing, phase_as}

-- the first that passes
pub found : {X : Type 0} (P : X → Type 0) (p : X → Bool) (xs : List X) (x : X) → AllByRecursion P xs → find p xs ≡ Some x → P x × (p x ≡ true)
found P p [] x all is = absurd cc
found {X} P p (y ∷ xs) x all is = by (p y) refl is (λ later. found P p xs x all.1 later)
  where
    by : (b : Bool) → p y ≡ b → cond b (Some y) (find p xs) ≡ Some x → (find p xs ≡ Some x → P x × (p x ≡ true)) → P x × (p x ≡ true)
    by true passes is rest =
        let same : y ≡ x = cc in (subst P same all.0, ap p (sym same) ∙ passes)
    by false fails is rest = rest is

-- each flight with its run
pub flights_have_runs : (P : Run → Type 0) (fs : List Flying) → AllByRecursion P (runs_of fs) → AllByRecursion (λ f. P (run_of f)) fs
flights_have_runs P [] all = tt
flights_have_runs P (f ∷ fs) all = (all.0, flights_have_runs P fs all.1)

pub both : {X : Type 0} (P Q : X → Type 0) (xs : List X) → AllByRecursion P xs → AllByRecursion Q xs → AllByRecursion (λ x. P x × Q x) xs
both P Q [] first second = tt
both P Q (x ∷ xs) first second = ((first.0, second.0), both P Q xs first.1 second.1)

-- a ticket of runs is that of one
run_with : (P : Run → Type 0) (t : ℕ) (fs : List Flying) → AllByRecursion P (runs_of fs) → has t (tickets_in (runs_of fs)) ≡ true → (f : Flying) × ((f.ticket ≡ t) × P (run_of f))
run_with P t [] all is = absurd cc
run_with P t (f ∷ fs) all is = by (or_cases (f.ticket == t) (has t (tickets_in (runs_of fs))) is) (λ later. run_with P t fs all.1 later)
  where
    by : ((f.ticket == t) ≡ true) ⊎ (has t (tickets_in (runs_of fs)) ≡ true) → (has t (tickets_in (runs_of fs)) ≡ true → (f : Flying) × ((f.ticket ≡ t) × P (run_of f))) → (f : Flying) × ((f.ticket ≡ t) × P (run_of f))
    by (inl here) rest = (f, (eqb-true f.ticket t here, all.0))
    by (inr later) rest = rest later

-- a flight that passes is found, where it is one with this ticket
no_other : (p : Flying → Bool) (t : ℕ) (P : Run → Type 0) (fs : List Flying) → AllByRecursion P (runs_of fs) → ((f : Flying) → P (run_of f) → f.ticket ≡ t → p f ≡ true) →
    has t (tickets_in (runs_of fs)) ≡ true → find p fs ≡ None → ⊥
no_other p t P [] all passes is none = absurd cc
no_other p t P (f ∷ fs) all passes is none = by (p f) refl none (or_cases (f.ticket == t) (has t (tickets_in (runs_of fs))) is) (λ later none. no_other p t P fs all.1 passes later none)
  where
    by : (b : Bool) → p f ≡ b → cond b (Some f) (find p fs) ≡ None → ((f.ticket == t) ≡ true) ⊎ (has t (tickets_in (runs_of fs)) ≡ true) → (has t (tickets_in (runs_of fs)) ≡ true → find p fs ≡ None → ⊥) → ⊥
    by true is none any rest = cc
    by false is none (inl here) rest = let wrong : true ≡ false = sym (passes f all.0 (eqb-true f.ticket t here)) ∙ is in cc
    by false is none (inr later) rest = rest later none

found_has : (p : Flying → Bool) (fs : List Flying) (f : Flying) → find p fs ≡ Some f → has f.ticket (tickets_in (runs_of fs)) ≡ true
found_has p [] f is = absurd cc
found_has p (g ∷ fs) f is = by (p g) is (λ later. found_has p fs f later)
  where
    by : (b : Bool) → cond b (Some g) (find p fs) ≡ Some f → (find p fs ≡ Some f → has f.ticket (tickets_in (runs_of fs)) ≡ true) → ((g.ticket == f.ticket) || has f.ticket (tickets_in (runs_of fs))) ≡ true
    by true is rest = let same : g ≡ f = cc in or_left (g.ticket == f.ticket) (has f.ticket (tickets_in (runs_of fs))) (eq-eqb g.ticket f.ticket (ap (λ (f : Flying). f.ticket) same))
    by false is rest = or_right (g.ticket == f.ticket) (has f.ticket (tickets_in (runs_of fs))) (rest is)

pub and_parts : (a b : Bool) → (a && b) ≡ true → (a ≡ true) × (b ≡ true)
and_parts true b is = (refl, is)
and_parts false b is = absurd cc

not_true : (b : Bool) → not b ≡ true → b ≡ false
not_true true is = absurd cc
not_true false is = refl

-- the object that shows a flight
pub flight_shown : (history : History) (h t : ℕ) → phase_at (after history) h ≡ Flight t → (o : Object) × ((object_at (after history).state h ≡ Some o) × (o.phase ≡ Flight t))
flight_shown history h t = by (object_at (after history).state h) refl
  where
    by : (x : Option Object) → object_at (after history).state h ≡ x → option_map_or (λ o. o.phase) x Empty ≡ Flight t → (o : Object) × ((object_at (after history).state h ≡ Some o) × (o.phase ≡ Flight t))
    by None none is = absurd cc
    by (Some o) some is = (o, (some, is))

-- it flies, and was not stopped
pub shown_goes : (history : History) (h t : ℕ) → phase_at (after history) h ≡ Flight t → has t (after history).state.stopped ≡ false
shown_goes history h t is = by (has t (after history).state.stopped) refl
  where
    o : (o : Object) × ((object_at (after history).state h ≡ Some o) × (o.phase ≡ Flight t))
    o = flight_shown history h t is

    by : (b : Bool) → has t (after history).state.stopped ≡ b → b ≡ false
    by false stops = refl
    by true stops = absurd ((stopped_is_unseen history t stops).unseen h o.0 o.1.0 (ap ticket_of o.1.1))

pub shown_flies : (history : History) (h t : ℕ) → phase_at (after history) h ≡ Flight t → has t (flights (after history).state) ≡ true
shown_flies history h t is =
    let o : (o : Object) × ((object_at (after history).state h ≡ Some o) × (o.phase ≡ Flight t)) = flight_shown history h t is in
    flights_have (after history).state t
    ∙ or_left (is_flying (after history).state t) (has t (after history).state.stopped)
    (some_passes (λ entry. is_in_flight t entry.1) h (after history).state.objects o.0 o.1.0 (ap (is_flight t) o.1.1 ∙ eq-eqb t t refl))

module _ (history : History) (future : Future) (flown : Flown history (runs_of future.flights)) (standing : Standing history (runs_of future.flights) future.pictures) where
  abbrev IsKeptRun : Run → Type 0
  IsKeptRun r = IsRun history r × (has r.ticket (after history).state.stopped ≡ r.stopped)

  runs : AllByRecursion IsKeptRun (runs_of future.flights)
  runs = both (IsRun history) (λ r. has r.ticket (after history).state.stopped ≡ r.stopped) (runs_of future.flights) flown.each standing.stopped

  by_flight : (h : ℕ) (f : Flying) → flight_of future h ≡ Some f → phase_at (after history) h ≡ Flight f.ticket
  by_flight h f is =
      let one : IsKeptRun (run_of f) × (is_flight_of h f ≡ true) = found (λ f. IsKeptRun (run_of f)) (is_flight_of h) future.flights f (flights_have_runs IsKeptRun future.flights runs) is in
      let parts : ((f.frame == h) ≡ true) × (not (is_stopped f) ≡ true) = and_parts (f.frame == h) (not (is_stopped f)) one.1 in
      flying_phase history f.ticket h (flown.tickets f.ticket ∙ found_has (is_flight_of h) future.flights f is) (one.0.1 ∙ not_true (is_stopped f) parts.1)
      (one.0.0.frame ∙ ap Some (eqb-true f.frame h parts.0))

  none_flies : (h t : ℕ) → flight_of future h ≡ None → phase_at (after history) h ≡ Flight t → ⊥
  none_flies h t none is =
      let flies : has t (flights (after history).state) ≡ true = shown_flies history h t is in
      no_other (is_flight_of h) t IsKeptRun future.flights runs
      (λ f run same. passes f run same (eq-eqb f.frame h (frame_is f run same)) (sym run.1 ∙ ap (λ t. has t (after history).state.stopped) same ∙ shown_goes history h t is))
      (sym (flown.tickets t) ∙ flies) none
    where
      frame_is : (f : Flying) → IsKeptRun (run_of f) → f.ticket ≡ t → f.frame ≡ h
      frame_is f run same =
          let o : (o : Object) × ((object_at (after history).state h ≡ Some o) × (o.phase ≡ Flight t)) = flight_shown history h t is in
          let all : Some f.frame ≡ Some h = sym run.0.frame ∙ ap (frame_at history) same ∙ own_tickets history h t o.0 o.1.0 (ap ticket_of o.1.1) in cc

      passes : (f : Flying) → IsKeptRun (run_of f) → f.ticket ≡ t → (f.frame == h) ≡ true → is_stopped f ≡ false → is_flight_of h f ≡ true
      passes f run same frame going = ap (λ b. b && not (is_stopped f)) frame ∙ ap not going

  pub phases_agree : (h : ℕ) → phase_at (after history) h ≡ phase_as (phase_of future h)
  phases_agree h = by (flight_of future h) refl (shown_by future h) refl
    where
      other : (phase : Phase) → phase_at (after history) h ≡ phase → flight_of future h ≡ None → shown_by future h ≡ None → phase ≡ Empty
      other Empty is none gone = refl
      other (Flight t) is none gone = absurd (none_flies h t none is)
      other (Done t) is none gone = let wrong : false ≡ true = sym (ap is_some gone) ∙ standing.done h t is in absurd cc

      by : (x : Option Flying) → flight_of future h ≡ x → (y : Option Finished) → shown_by future h ≡ y → phase_at (after history) h ≡ phase_as (phase_by x y)
      by (Some f) is y shown = by_flight h f is
      by None none (Some p) shown =
          let one : (phase_at (after history) p.frame ≡ Done p.ticket) × (is_picture_of h p ≡ true) = found (λ p. phase_at (after history) p.frame ≡ Done p.ticket) (is_picture_of h) future.pictures p standing.shown shown in
          ap (phase_at (after history)) (sym (eqb-true p.frame h one.1)) ∙ one.0
      by None none None gone = other (phase_at (after history) h) refl none gone

-- nothing is kept where nothing happened
pub first_flown : Flown [] []
unfolding after
first_flown = record { tickets = λ t. refl; each = tt }

pub first_stands : Standing [] [] []
unfolding after
first_stands = record { stopped = tt; shown = tt; done = λ h t is. absurd cc }
