-- Each ticket stands once.
use Rattle.std.proofs.Common.{ℕ, ◌+◌, ◌==◌, ◌≡◌, ◌<◌, ◌≤◌, ◌∙◌, ◌⊎◌, inl, inr, Bool, true, false, not, List, [], ◌∷◌, ◌++◌, Option, Some, None, refl, sym, ap, subst, length, arith}
use Rattle.std.specs.Prelude.{cond}
use Rattle.std.specs.List.{filter, filter_map}
use Rattle.std.specs.Map.{keys_of}
use Rattle.std.specs.Option.{option_map_or, unwrap_or}
use Rattle.std.proofs.lemmas.Bool.{cond-false, cond-true, eqb-true, or_cases, or_parts}
use Rattle.std.proofs.lemmas.List.Folds.{list_any-append}
use Rattle.std.proofs.lemmas.List.Sums.{sum_by-append, sum_by-cons}
use Rattle.seq_model.proofs.Afters.{after_more, frame_within, grows_by}
use Rattle.seq_model.proofs.Changes.{Change, Quiet, Making, Rendering, Discarding, Finishing, Leaving, Closing, entry_changes}
use Rattle.seq_model.proofs.Flights.{IsUnseen, own_tickets, stopped_is_unseen, ticket_in_flight}
use Rattle.seq_model.proofs.Handles.{changed, rises, step_state, swept_next}
use Rattle.seq_model.proofs.Keys.{RisesWithin, at, at_tail, at_within, key_here}
use Rattle.seq_model.proofs.Sweeps.{place_after}
use Rattle.seq_model.specs.Histories.{History, frame_at}
use Rattle.dev_types.specs.Counting.{times}
use Rattle.seq_model.specs.Life.{has}
use Rattle.seq_model.specs.State.{Object, Phase, Empty, Flight, Done, State, changed_at, flights, object_at, ticket_in}
use Rattle.seq_model.specs.Steps.{Past, after, discard, end_flights, next_place, set_phase, step, stop}
use Rattle.seq_model.specs.Tickets.{ticket_of}
use Rattle.seq_model.specs.declared.calls.Entry.{Entry}

-- what a list has not it has no times
no_times : (u : ℕ) (us : List ℕ) → has u us ≡ false → times u us ≡ 0
no_times u [] none = refl
no_times u (v ∷ us) none =
    let both : ((v == u) ≡ false) × (has u us ≡ false) = or_parts (v == u) (has u us) none in
    let first : cond {A = ℕ} (v == u) 1 0 ≡ 0 = cond-false (v == u) 1 0 both.0 in
    let rest : times u us ≡ 0 = no_times u us both.1 in
    omega (arith, sum_by-cons (λ k. cond (k == u) 1 0) v us, first, rest)

times_of_filter : (u : ℕ) (p : ℕ → Bool) (us : List ℕ) → times u (filter p us) ≤ times u us
times_of_filter u p [] = omega arith
times_of_filter u p (v ∷ us) = by (p v) (times_of_filter u p us)
  where
    all : times u (v ∷ us) ≡ cond {A = ℕ} (v == u) 1 0 + times u us
    all = sum_by-cons (λ k. cond (k == u) 1 0) v us

    by : (t : Bool) → times u (filter p us) ≤ times u us → times u (cond t (v ∷ filter p us) (filter p us)) ≤ times u (v ∷ us)
    by true rest = omega (arith, all, rest, sum_by-cons (λ k. cond (k == u) 1 0) v (filter p us))
    by false rest = omega (arith, all, rest)

times_with_last : (u v : ℕ) (us : List ℕ) → times u us ≤ 1 → (v ≡ u → has u us ≡ false) → times u (us ++ v ∷ []) ≤ 1
times_with_last u v us once none = by (v == u) refl
  where
    all : times u (us ++ v ∷ []) ≡ times u us + times u (v ∷ [])
    all = sum_by-append (λ k. cond (k == u) 1 0) us (v ∷ [])

    last : times u (v ∷ []) ≡ cond {A = ℕ} (v == u) 1 0 + 0
    last = sum_by-cons (λ k. cond (k == u) 1 0) v []

    by : (t : Bool) → (v == u) ≡ t → times u (us ++ v ∷ []) ≤ 1
    by true is =
        let nothing : times u us ≡ 0 = no_times u us (none (eqb-true v u is)) in
        let one : cond {A = ℕ} (v == u) 1 0 ≡ 1 = cond-true (v == u) 1 0 is in
        omega (arith, all, last, nothing, one)
    by false is = let zero_ : cond {A = ℕ} (v == u) 1 0 ≡ 0 = cond-false (v == u) 1 0 is in omega (arith, all, last, zero_, once)

-- a frame in flight has the ticket
frame_of : (u low high : ℕ) (es : List (ℕ × Object)) → RisesWithin low high (keys_of es) → has u (filter_map (λ entry. ticket_in entry.1.phase) es) ≡ true →
    (k : ℕ) × (o : Object) × (at k es ≡ Some o) × (ticket_in o.phase ≡ Some u)
frame_of u low high [] rising flies = absurd cc
frame_of u low high (e ∷ es) rising flies = by (ticket_in e.1.phase) refl (λ x. frame_of u (e.0 + 1) high es rising.1 x)
  where
    later : (k : ℕ) × (o : Object) × (at k es ≡ Some o) × (ticket_in o.phase ≡ Some u) → (k : ℕ) × (o : Object) × (at k (e ∷ es) ≡ Some o) × (ticket_in o.phase ≡ Some u)
    later one = (one.0, one.1, at_tail one.0 high e es one.1 rising.1 one.2, one.3)

    by : (x : Option ℕ) → ticket_in e.1.phase ≡ x →
        (has u (filter_map (λ entry. ticket_in entry.1.phase) es) ≡ true → (k : ℕ) × (o : Object) × (at k es ≡ Some o) × (ticket_in o.phase ≡ Some u)) →
        (k : ℕ) × (o : Object) × (at k (e ∷ es) ≡ Some o) × (ticket_in o.phase ≡ Some u)
    by None is rest = later (rest (rw is at flies))
    by (Some v) is rest = of (or_cases (v == u) (has u (filter_map (λ entry. ticket_in entry.1.phase) es)) (rw is at flies))
      where
        of : ((v == u) ≡ true) ⊎ (has u (filter_map (λ entry. ticket_in entry.1.phase) es) ≡ true) → (k : ℕ) × (o : Object) × (at k (e ∷ es) ≡ Some o) × (ticket_in o.phase ≡ Some u)
        of (inl same) = (e.0, e.1, ap (λ t. cond t (Some e.1) (at e.0 es)) (key_here e.0), is ∙ ap Some (eqb-true v u same))
        of (inr after) = later (rest after)

-- the frames in flight with one ticket are one
tickets_of : List (ℕ × Object) → List ℕ
tickets_of es = filter_map (λ entry. ticket_in entry.1.phase) es

frames_once : (u f low high : ℕ) (es : List (ℕ × Object)) → RisesWithin low high (keys_of es) → ((k : ℕ) (o : Object) → at k es ≡ Some o → ticket_in o.phase ≡ Some u → k ≡ f) →
    times u (tickets_of es) ≤ 1
unfolding tickets_of
frames_once u f low high [] rising own = omega arith
frames_once u f low high (e ∷ es) rising own =
    by (ticket_in e.1.phase) refl (frames_once u f (e.0 + 1) high es rising.1 (λ k o found flies. own k o (at_tail k high e es o rising.1 found) flies))
  where
    alone : ticket_in e.1.phase ≡ Some u → has u (filter_map (λ entry. ticket_in entry.1.phase) es) ≡ false
    alone flies = of (has u (filter_map (λ entry. ticket_in entry.1.phase) es)) refl
      where
        of : (t : Bool) → has u (filter_map (λ entry. ticket_in entry.1.phase) es) ≡ t → t ≡ false
        of false is = refl
        of true is =
            let one : (k : ℕ) × (o : Object) × (at k es ≡ Some o) × (ticket_in o.phase ≡ Some u) = frame_of u (e.0 + 1) high es rising.1 is in
            let here : e.0 ≡ f = own e.0 e.1 (ap (λ t. cond t (Some e.1) (at e.0 es)) (key_here e.0)) flies in
            let there : one.0 ≡ f = own one.0 one.1 (at_tail one.0 high e es one.1 rising.1 one.2) one.3 in
            let within : (e.0 + 1 ≤ one.0) × (one.0 < high) = at_within one.0 (e.0 + 1) high es one.1 rising.1 one.2 in
            absurd (omega (arith, here, there, within.0))

    by : (x : Option ℕ) → ticket_in e.1.phase ≡ x → times u (filter_map (λ entry. ticket_in entry.1.phase) es) ≤ 1 → times u (filter_map (λ entry. ticket_in entry.1.phase) (e ∷ es)) ≤ 1
    by None is rest = rw is rest
    by (Some v) is rest = rw is (of (v == u) refl)
      where
        all : times u (v ∷ filter_map (λ entry. ticket_in entry.1.phase) es) ≡ cond {A = ℕ} (v == u) 1 0 + times u (filter_map (λ entry. ticket_in entry.1.phase) es)
        all = sum_by-cons (λ k. cond (k == u) 1 0) v (filter_map (λ entry. ticket_in entry.1.phase) es)

        of : (t : Bool) → (v == u) ≡ t → times u (v ∷ filter_map (λ entry. ticket_in entry.1.phase) es) ≤ 1
        of true test =
            let one : cond {A = ℕ} (v == u) 1 0 ≡ 1 = cond-true (v == u) 1 0 test in
            let nothing : times u (filter_map (λ entry. ticket_in entry.1.phase) es) ≡ 0 = no_times u (filter_map (λ entry. ticket_in entry.1.phase) es) (alone (is ∙ ap Some (eqb-true v u test))) in
            omega (arith, all, one, nothing)
        of false test = let zero_ : cond {A = ℕ} (v == u) 1 0 ≡ 0 = cond-false (v == u) 1 0 test in omega (arith, all, zero_, rest)

-- how often a ticket was stopped
stops_once : (phase : Phase) (s : State) (u : ℕ) → times u s.stopped ≤ 1 → (phase ≡ Flight u → has u s.stopped ≡ false) → times u (stop phase s).stopped ≤ 1
stops_once Empty s u once none = once
stops_once (Done t) s u once none = once
stops_once (Flight t) s u once none = times_with_last u t s.stopped once (λ same. none (ap Flight same))

-- what a frame shows was not stopped
not_stopped : (history : History) (u h : ℕ) (o : Object) → object_at (after history).state h ≡ Some o → o.phase ≡ Flight u → has u (after history).state.stopped ≡ false
not_stopped history u h o found flies = by (has u (after history).state.stopped) refl
  where
    by : (t : Bool) → has u (after history).state.stopped ≡ t → t ≡ false
    by false is = refl
    by true is = absurd ((stopped_is_unseen history u is).unseen h o found (ap ticket_of flies))

discard_once : (history : History) (h u : ℕ) → times u (after history).state.stopped ≤ 1 → times u (discard h (after history).state).stopped ≤ 1
unfolding discard
discard_once history h u once =
    stops_once (option_map_or (λ o. o.phase) (object_at (after history).state h) Empty) (changed_at h (set_phase Empty) (after history).state) u once (by (object_at (after history).state h) refl)
  where
    by : (x : Option Object) → object_at (after history).state h ≡ x → option_map_or (λ o. o.phase) (object_at (after history).state h) Empty ≡ Flight u → has u (after history).state.stopped ≡ false
    by None is flies = let none : Empty ≡ Flight u = sym (ap (λ x. option_map_or (λ o. o.phase) x Empty) is) ∙ flies in absurd cc
    by (Some o) is flies = not_stopped history u h o is (sym (ap (λ x. option_map_or (λ o. o.phase) x Empty) is) ∙ flies)

ends_stopped : (v : ℕ) (phase : Phase) (s : State) → (end_flights v phase s).stopped ≡ s.stopped
unfolding end_flights
ends_stopped v phase s = refl

change_once : (place : ℕ) (history : History) (e : Entry) (t : State) (u : ℕ) → Change place e (after history).state t → times u (after history).state.stopped ≤ 1 → times u t.stopped ≤ 1
change_once place history e t u (Quiet shows takes quiet) once = subst (λ us. times u us ≤ 1) (sym quiet.stopped) once
change_once place history e t u (Making o v shows takes phase quiet is) once = subst (λ (t : State). times u t.stopped ≤ 1) (sym is) (subst (λ us. times u us ≤ 1) (sym quiet.stopped) once)
change_once place history e t u (Rendering h shows takes is) once = subst (λ (t : State). times u t.stopped ≤ 1) (sym is) once
change_once place history e t u (Discarding h shows takes is) once = subst (λ (t : State). times u t.stopped ≤ 1) (sym is) (discard_once history h u once)
change_once place history e t u (Finishing v entry is) once =
    subst (λ (t : State). times u t.stopped ≤ 1) (sym is) (subst (λ us. times u us ≤ 1) (sym (ends_stopped v (Done v) (after history).state)) once)
change_once place history e t u (Leaving v entry is) once =
    subst (λ (t : State). times u t.stopped ≤ 1) (sym is)
    (let less : times u (filter (λ w. not (w == v)) (after history).state.stopped) ≤ times u (after history).state.stopped = times_of_filter u (λ w. not (w == v)) (after history).state.stopped in omega (arith, less, once))
change_once place history e t u (Closing entry is) once = subst (λ (t : State). times u t.stopped ≤ 1) (sym is) once

once_first : (u : ℕ) → times u (after []).state.stopped ≤ 1
unfolding after
once_first u = omega arith

stopped_once : (u : ℕ) (history : History) → times u (after history).state.stopped ≤ 1
stopped_once u history = grows_by (λ history. times u (after history).state.stopped ≤ 1) (once_first u) more history
  where
    more : (history : History) (e : Entry) → times u (after history).state.stopped ≤ 1 → times u (after (history ++ e ∷ [])).state.stopped ≤ 1
    more history e once =
        subst (λ (past : Past). times u past.state.stopped ≤ 1) (sym (after_more history e))
        (subst (λ (s : State). times u s.stopped ≤ 1) (sym (step_state (after history) e))
        (subst (λ us. times u us ≤ 1) (sym (swept_next (step (after history) e) (changed (after history) e)).1)
        (change_once (next_place (after history)) history e (changed (after history) e) u (entry_changes (next_place (after history)) e (after history).state) once)))

pub tickets_stand_once : (history : History) (t : ℕ) → times t (flights (after history).state) ≤ 1
unfolding tickets_of
tickets_stand_once history t = by (has t (after history).state.stopped) refl
  where
    frames : List ℕ
    frames = filter_map (λ entry. ticket_in entry.1.phase) (after history).state.objects

    all : times t (flights (after history).state) ≡ times t frames + times t (after history).state.stopped
    all = sum_by-append (λ k. cond (k == t) 1 0) frames (after history).state.stopped

    own : (k : ℕ) (o : Object) → at k (after history).state.objects ≡ Some o → ticket_in o.phase ≡ Some t → k ≡ unwrap_or (frame_at history t) 0
    own k o found flies = ap (λ x. unwrap_or x 0) (sym (own_tickets history k t o found (ticket_in_flight o.phase t flies)))

    once : times t frames ≤ 1
    once = frames_once t (unwrap_or (frame_at history t) 0) 1 (after history).state.next (after history).state.objects (rises history) own

    none_flies : IsUnseen t (after history) → (b : Bool) → has t frames ≡ b → b ≡ false
    none_flies unseen false is = refl
    none_flies unseen true is =
        let one : (k : ℕ) × (o : Object) × (at k (after history).state.objects ≡ Some o) × (ticket_in o.phase ≡ Some t) = frame_of t 1 (after history).state.next (after history).state.objects (rises history) is in
        absurd (unseen.unseen one.0 one.1 one.2 (ticket_in_flight one.1.phase t one.3))

    by : (b : Bool) → has t (after history).state.stopped ≡ b → times t (flights (after history).state) ≤ 1
    by false is = let none : times t (after history).state.stopped ≡ 0 = no_times t (after history).state.stopped is in omega (arith, all, none, once)
    by true is =
        let none : times t frames ≡ 0 = no_times t frames (none_flies (stopped_is_unseen history t is) (has t frames) refl) in
        omega (arith, all, none, stopped_once t history)

pub tickets_are_places : (history : History) (t : ℕ) → has t (flights (after history).state) ≡ true → t < next_place (after history)
tickets_are_places history t is =
    by (or_cases (has t frames) (has t (after history).state.stopped) (sym (list_any-append (λ k. k == t) frames (after history).state.stopped) ∙ is))
  where
    frames : List ℕ
    frames = filter_map (λ entry. ticket_in entry.1.phase) (after history).state.objects

    by : (has t frames ≡ true) ⊎ (has t (after history).state.stopped ≡ true) → t < next_place (after history)
    by (inl flies) =
        let one : (k : ℕ) × (o : Object) × (at k (after history).state.objects ≡ Some o) × (ticket_in o.phase ≡ Some t) = frame_of t 1 (after history).state.next (after history).state.objects (rises history) flies in
        let within : (0 < t) × (t ≤ length history) = frame_within history t one.0 (own_tickets history one.0 t one.1 one.2 (ticket_in_flight one.1.phase t one.3)) in
        omega (arith, within.1, place_after history)
    by (inr stopped) = (stopped_is_unseen history t stopped).early
