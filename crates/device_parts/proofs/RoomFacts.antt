-- How many entries the journal owes.
use Rattle.std.proofs.Common.{◌≡◌, ◌∙◌, ◌<◌, ◌≤◌, ◌+◌, ◌∷◌, ℕ, List, [], inl, inr, length, length-append, map, refl, ap, arith}
use Rattle.std.specs.List.{AllByRecursion, filter_map}
use Rattle.std.proofs.lemmas.List.{length-map}
use Rattle.dev_types.specs.Counting.{times}
use Rattle.dev_types.proofs.SumLaws.{times-cons}
use Rattle.frame_future.specs.Flights.{Flying}
use Rattle.frame_future.specs.Future.{Future, IsKept, Rising}
use Rattle.room_laws.proofs.FlightFacts.{as_many}
use Rattle.seq_model.specs.Histories.{History}
use Rattle.seq_model.specs.Life.{has}
use Rattle.seq_model.specs.State.{Object, State, flights, ticket_in}
use Rattle.seq_model.specs.Steps.{after}
use Rattle.device_laws.specs.Flown.{Flown, runs_of, tickets_in}
use Rattle.device_parts.specs.AllParts.{AreParts, Inside}

-- numbers that rise stand once each
none_above : (t : ℕ) (ts : List ℕ) → AllByRecursion (λ u. t < u) ts → times t ts ≡ 0
none_above t [] above = refl
none_above t (u ∷ ts) above = elim (times-cons t u ts) [
  | inl here ↦ absurd (let same = here.0 in let less = above.0 in omega (arith, same, less))
  | inr other ↦ other.1 ∙ none_above t ts above.1
]

rising_once : (ts : List ℕ) → Rising ts → (t : ℕ) → times t ts ≤ 1
rising_once [] rising t = omega arith
rising_once (u ∷ ts) rising t = elim (times-cons t u ts) [
  | inl here ↦ (let more = here.1 in let none = ap (λ v. times v ts) here.0 in let nothing = none_above u ts rising.0 in omega (arith, more, none, nothing))
  | inr other ↦ (let same = other.1 in let rest = rising_once ts rising.1 t in omega (arith, same, rest))
]

tickets_are : (fs : List Flying) → tickets_in (runs_of fs) ≡ map (λ f. f.ticket) fs
tickets_are [] = refl
tickets_are (f ∷ fs) = ap (λ ts. f.ticket ∷ ts) (tickets_are fs)

-- the flights that are kept are as many as those of the history
pub flight_count : (history : History) (s : Future) → Flown history (runs_of s.flights) → IsKept s → length (flights (after history).state) ≡ length s.flights
flight_count history s flown kept =
    as_many history (map (λ f. f.ticket) s.flights) (λ t. flown.tickets t ∙ ap (has t) (tickets_are s.flights)) (rising_once (map (λ f. f.ticket) s.flights) kept.rising)
    ∙ length-map s.flights (λ (f : Flying). f.ticket)

-- there is a place for one more among the flights that were stopped
pub stop_place : (i : Inside) → AreParts i → IsKept i.flights.future → length i.objects.stored.state.stopped < i.objects.stored.places
stop_place i p kept =
    let count = flight_count i.history i.flights.future p.flown kept in
    let flying : List ℕ = filter_map (λ (e : ℕ × Object). ticket_in e.1.phase) (after i.history).state.objects in
    let all : length (flights (after i.history).state) ≡ length flying + length (after i.history).state.stopped =
    length-append flying (after i.history).state.stopped in
    let same = ap (λ (s : State). length s.stopped) p.rest.state in
    let had = p.stops in
    omega (arith, count, all, same, had)
