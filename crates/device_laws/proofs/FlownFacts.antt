-- The runs of a device, as entries are added to its history.
use Rattle.std.proofs.Common.{ℕ, ◌+◌, ◌==◌, ◌≡◌, ◌<◌, ◌∙◌, ◌⊎◌, inl, inr, Bool, true, false, List, [], ◌∷◌, ◌++◌, Option, Some, None, map, length, refl, sym, ap, arith}
use Rattle.std.specs.Prelude.{cond, ◌||◌}
use Rattle.std.specs.List.{AllByRecursion}
use Rattle.std.specs.Option.{option_map_or}
use Rattle.std.proofs.lemmas.Bool.{eq-eqb, or_cases, or_right}
use Rattle.std.proofs.lemmas.List.{map-append}
use Rattle.std.proofs.lemmas.List.Folds.{list_any-append}
use Rattle.past_laws.proofs.FlightFacts.{flights_have}
use Rattle.past_laws.specs.Worlds.{render_of}
use Rattle.seq_model.proofs.Afters.{frame_early, frame_last, frame_within}
use Rattle.seq_model.proofs.Flights.{own_tickets, ticket_in_flight}
use Rattle.seq_model.proofs.Sweeps.{place_after}
use Rattle.seq_model.proofs.Tickets.{tickets_are_places}
use Rattle.seq_model.specs.Histories.{History, frame_at}
use Rattle.seq_model.specs.Legal.{Legal, is_flying}
use Rattle.seq_model.specs.Life.{has}
use Rattle.seq_model.specs.Refusals.{phase_at}
use Rattle.seq_model.specs.State.{Object, Empty, flights, object_at, ticket_in}
use Rattle.seq_model.specs.Steps.{Past, after, next_place}
use Rattle.seq_model.specs.declared.calls.Call.TheVariants.{DiscardFrame, RenderFrame, Retain}
use Rattle.seq_model.specs.declared.calls.Entry.{Entry}
use Rattle.seq_model.specs.declared.calls.Entry.TheVariants.{Called, Finished, Left}
use Rattle.seq_model.specs.declared.calls.Reply.TheVariants as reply
use Rattle.device_laws.proofs.FlightFacts.{flight_is}
use Rattle.device_laws.proofs.FlightSteps.{flights_by, or_false, stops_after}
use Rattle.device_laws.specs.FlightMoves.{flies_after, moves_flights, stopped_after}
use Rattle.device_laws.specs.Flown.{Flown, IsRun, Run, stopped_run, stopped_runs, tickets_in}
use Rattle.device_laws.specs.Showings.{is_flight}

-- lists by recursion
pub weaker : {X : Type 0} (P Q : X → Type 0) (xs : List X) → ((x : X) → P x → Q x) → AllByRecursion P xs → AllByRecursion Q xs
weaker P Q [] f all = tt
weaker P Q (x ∷ xs) f all = (f x all.0, weaker P Q xs f all.1)

pub joined : {X : Type 0} (P : X → Type 0) (xs ys : List X) → AllByRecursion P xs → AllByRecursion P ys → AllByRecursion P (xs ++ ys)
joined P [] ys first second = second
joined P (x ∷ xs) ys first second = (first.0, joined P xs ys first.1 second)

pub without_middle : {X : Type 0} (P : X → Type 0) (xs : List X) (x : X) (ys : List X) → AllByRecursion P (xs ++ x ∷ ys) → AllByRecursion P (xs ++ ys)
without_middle P [] x ys all = all.1
without_middle P (z ∷ xs) x ys all = (all.0, without_middle P xs x ys all.1)

pub middle : {X : Type 0} (P : X → Type 0) (xs : List X) (x : X) (ys : List X) → AllByRecursion P (xs ++ x ∷ ys) → P x
middle P [] x ys all = all.0
middle P (z ∷ xs) x ys all = middle P xs x ys all.1

pub mapped : {X Y : Type 0} (P : Y → Type 0) (f : X → Y) (xs : List X) → AllByRecursion (λ x. P (f x)) xs → AllByRecursion P (map f xs)
mapped P f [] all = tt
mapped P f (x ∷ xs) all = (all.0, mapped P f xs all.1)

or_comm : (a b : Bool) → (a || b) ≡ (b || a)
or_comm true true = refl
or_comm true false = refl
or_comm false true = refl
or_comm false false = refl

-- a run after one more entry that stops no flight of its ticket
pub run_over : (history : History) (e : Entry) (r : Run) → (has r.ticket (after (history ++ e ∷ [])).state.stopped ≡ true → has r.ticket (after history).state.stopped ≡ true) →
    IsRun history r → IsRun (history ++ e ∷ []) r
run_over history e r stops run = record {
  frame = frame_early history (e ∷ []) r.ticket (frame_within history r.ticket r.frame run.frame).1 ∙ run.frame;
  stopped = λ is. run.stopped (stops is);
}

-- an entry that moves no flight
flies_same : (place : ℕ) (e : Entry) (t : ℕ) (flew : Bool) → moves_flights e ≡ false → flies_after place e t flew ≡ flew
flies_same place (Called actor (RenderFrame f) reply.Done) t flew none = absurd cc
flies_same place (Called actor (Retain k) r) t flew none = refl
flies_same place (Finished u) t flew none = absurd cc
flies_same place (Left u) t flew none = absurd cc
flies_same place e t flew none = refl

pub stops_same : (past : Past) (e : Entry) (t : ℕ) → moves_flights e ≡ false → stopped_after past e t ≡ has t past.state.stopped
stops_same past (Called actor (DiscardFrame f) reply.Done) t none = absurd cc
stops_same past (Called actor (Retain k) r) t none = refl
stops_same past (Left u) t none = absurd cc
stops_same past e t none = refl

pub others_keep : (history : History) (e : Entry) (runs : List Run) → Legal (history ++ e ∷ []) → moves_flights e ≡ false → Flown history runs → Flown (history ++ e ∷ []) runs
others_keep history e runs legal none flown = record {
  tickets = λ t. flights_by history e t legal ∙ flies_same (length history + 1) e t (has t (flights (after history).state)) none ∙ flown.tickets t;
  each =
      weaker (IsRun history) (IsRun (history ++ e ∷ [])) runs
      (λ r run. run_over history e r (λ is. sym (stops_after history e r.ticket ∙ stops_same (after history) e r.ticket none) ∙ is) run) flown.each;
}

-- a render
tickets_joined : (t : ℕ) (xs ys : List Run) → has t (tickets_in (xs ++ ys)) ≡ (has t (tickets_in xs) || has t (tickets_in ys))
tickets_joined t xs ys = ap (has t) (map-append (λ (r : Run). r.ticket) xs ys) ∙ list_any-append (λ k. k == t) (tickets_in xs) (tickets_in ys)

pub stopped_is_early : (history : History) (t : ℕ) → has t (after history).state.stopped ≡ true → t < length history + 1
stopped_is_early history t is =
    let less : t < next_place (after history) =
    tickets_are_places history t (flights_have (after history).state t ∙ or_right (is_flying (after history).state t) (has t (after history).state.stopped) is) in
    omega (arith, less, place_after history)

pub render_adds : (history : History) (actor f : ℕ) (runs : List Run) → Legal (history ++ render_of actor f ∷ []) → Flown history runs →
    Flown (history ++ render_of actor f ∷ []) (runs ++ record { ticket = length history + 1; frame = f; stopped = false } ∷ [])
render_adds history actor f runs legal flown = record {
  tickets = λ t.
      flights_by history (render_of actor f) t legal ∙ ap (λ b. (length history + 1 == t) || b) (flown.tickets t)
      ∙ or_comm (length history + 1 == t) (has t (tickets_in runs)) ∙ ap (λ b. has t (tickets_in runs) || b) (sym (or_false (length history + 1 == t)))
      ∙ sym (tickets_joined t runs (made ∷ []));
  each =
      joined (IsRun (history ++ render_of actor f ∷ [])) runs (made ∷ [])
      (weaker (IsRun history) (IsRun (history ++ render_of actor f ∷ [])) runs (λ r run. run_over history (render_of actor f) r (λ is. sym (stops_after history (render_of actor f) r.ticket) ∙ is) run) flown.each) (
        record {
          frame = frame_last history (render_of actor f);
          stopped = λ is. (let less : length history + 1 < length history + 1 = stopped_is_early history (length history + 1) (sym (stops_after history (render_of actor f) (length history + 1)) ∙ is) in absurd (omega (arith, less)));
        },
        tt,
      );
}
  where
    made : Run
    made = record { ticket = length history + 1; frame = f; stopped = false }

-- a discard
same_tickets : (f : ℕ) (runs : List Run) → tickets_in (stopped_runs f runs) ≡ tickets_in runs
same_tickets f [] = refl
same_tickets f (r ∷ runs) = by (r.frame == f) (same_tickets f runs)
  where
    by : (b : Bool) → tickets_in (stopped_runs f runs) ≡ tickets_in runs →
        (cond b (record { ticket = r.ticket; frame = r.frame; stopped = true }) r).ticket ∷ tickets_in (stopped_runs f runs) ≡ r.ticket ∷ tickets_in runs
    by true rest = ap (λ ts. r.ticket ∷ ts) rest
    by false rest = ap (λ ts. r.ticket ∷ ts) rest

pub own_flight : (history : History) (t f : ℕ) → is_flight t (phase_at (after history) f) ≡ true → frame_at history t ≡ Some f
own_flight history t f is = by (object_at (after history).state f) refl is
  where
    by : (x : Option Object) → object_at (after history).state f ≡ x → is_flight t (option_map_or (λ o. o.phase) x Empty) ≡ true → frame_at history t ≡ Some f
    by None none is = absurd cc
    by (Some o) some is = own_tickets history f t o some (ticket_in_flight o.phase t (ap ticket_in (flight_is t o.phase is)))

pub discard_stops : (history : History) (actor f : ℕ) (runs : List Run) → Legal (history ++ Called actor (DiscardFrame f) reply.Done ∷ []) → Flown history runs →
    Flown (history ++ Called actor (DiscardFrame f) reply.Done ∷ []) (stopped_runs f runs)
discard_stops history actor f runs legal flown = record {
  tickets = λ t. flights_by history e t legal ∙ flown.tickets t ∙ ap (has t) (sym (same_tickets f runs));
  each = mapped (IsRun (history ++ e ∷ [])) (stopped_run f) runs (weaker (IsRun history) (λ r. IsRun (history ++ e ∷ []) (stopped_run f r)) runs (λ r run. by r run (r.frame == f) refl) flown.each);
}
  where
    e : Entry
    e = Called actor (DiscardFrame f) reply.Done

    by : (r : Run) → IsRun history r → (b : Bool) → (r.frame == f) ≡ b →
        IsRun (history ++ Called actor (DiscardFrame f) reply.Done ∷ []) (cond b (record { ticket = r.ticket; frame = r.frame; stopped = true }) r)
    by r run true is = record {
      frame = frame_early history (Called actor (DiscardFrame f) reply.Done ∷ []) r.ticket (frame_within history r.ticket r.frame run.frame).1 ∙ run.frame;
      stopped = λ _. refl;
    }
    by r run false is =
        run_over history (Called actor (DiscardFrame f) reply.Done) r
        (λ stops. of (or_cases (has r.ticket (after history).state.stopped) (is_flight r.ticket (phase_at (after history) f)) (sym (stops_after history (Called actor (DiscardFrame f) reply.Done) r.ticket) ∙ stops))) run
      where
        of : (has r.ticket (after history).state.stopped ≡ true) ⊎ (is_flight r.ticket (phase_at (after history) f) ≡ true) → has r.ticket (after history).state.stopped ≡ true
        of (inl old) = old
        of (inr flight) =
            let both : Some r.frame ≡ Some f = sym run.frame ∙ own_flight history r.ticket f flight in
            let same : r.frame ≡ f = cc in
            let wrong : (r.frame == f) ≡ true = eq-eqb r.frame f same in absurd cc
