-- Which flights there are, and how many, after one of them ended or left.
use Rattle.std.proofs.Common.{ℕ, ◌==◌, ◌≡◌, ◌<◌, ◌≤◌, ◌∙◌, ◌⊎◌, inl, inr, not, Bool, true, false, List, [], ◌∷◌, ◌++◌, Option, Some, None, map, refl, sym, ap, length, arith, ◌+◌, length-append, subst}
use Rattle.std.specs.Prelude.{◌&&◌, ◌||◌, cond}
use Rattle.std.specs.List.{cons_option, filter, filter_map, list_any}
use Rattle.std.specs.Option.{option_map_or}
use Rattle.std.proofs.lemmas.Bool.{eqb-true, or_cases, or_left}
use Rattle.std.proofs.lemmas.List.Folds.{list_any-append}
use Rattle.std.proofs.lemmas.Map.Entries.{option_filter}
use Rattle.std.proofs.lemmas.Map.Views.{any-filter_same}
use Rattle.seq_model.proofs.Afters.{after_more, frame_within, grows_by}
use Rattle.seq_model.proofs.Came.{swept_was}
use Rattle.seq_model.proofs.Changes.{entry_changes}
use Rattle.seq_model.proofs.Flights.{own_tickets, stops, ticket_in_flight}
use Rattle.seq_model.proofs.Handles.{IsRising, changed, changed_rises, lives, rises, root_of, step_state, sweep_rises, swept_next, swept_objects}
use Rattle.seq_model.proofs.Keys.{at, at_filter, one_that_passes, some_passes}
use Rattle.seq_model.proofs.Sweeps.{IsFlown, flown, flown_changed, flying_is_reached, reached_is_root}
use Rattle.seq_model.specs.Histories.{History, public}
use Rattle.seq_model.specs.Legal.{is_flying}
use Rattle.seq_model.specs.Life.{has}
use Rattle.seq_model.specs.State.{Object, Phase, Empty, Flight, Done, State, flights, is_in_flight, object_at, ticket_in}
use Rattle.seq_model.specs.Steps.{Past, after, change, end_flight, end_flights, is_reached, next_place, set_phase, step, swept}
use Rattle.seq_model.specs.declared.calls.Entry.{Entry}
use Rattle.seq_model.specs.declared.calls.Entry.TheVariants.{Finished, Left}

-- two tests that pass alike
same_truth : (a b : Bool) → (a ≡ true → b ≡ true) → (b ≡ true → a ≡ true) → a ≡ b
same_truth true b there back = sym (there refl)
same_truth false true there back = back refl
same_truth false false there back = refl

-- a flight is that of a frame, or was stopped
flying_has : (k : ℕ) (es : List (ℕ × Object)) → has k (filter_map (λ entry. ticket_in entry.1.phase) es) ≡ list_any (λ entry. is_in_flight k entry.1) es
flying_has k [] = refl
flying_has k (e ∷ es) = by (ticket_in e.1.phase) refl (flying_has k es)
  where
    by : (x : Option ℕ) → ticket_in e.1.phase ≡ x → has k (filter_map (λ entry. ticket_in entry.1.phase) es) ≡ list_any (λ entry. is_in_flight k entry.1) es →
        has k (filter_map (λ entry. ticket_in entry.1.phase) (e ∷ es)) ≡ list_any (λ entry. is_in_flight k entry.1) (e ∷ es)
    by None is rest = rw is rest
    by (Some v) is rest = rw is (ap (λ t. (v == k) || t) rest)

pub flights_have : (s : State) (k : ℕ) → has k (flights s) ≡ (is_flying s k || has k s.stopped)
flights_have s k =
    list_any-append (λ v. v == k) (filter_map (λ entry. ticket_in entry.1.phase) s.objects) s.stopped
    ∙ ap (λ t. t || has k s.stopped) (flying_has k s.objects)

-- the ticket of a frame in flight
has_ticket : (k : ℕ) (o : Object) → is_in_flight k o ≡ true → ticket_in o.phase ≡ Some k
has_ticket k o flies = by (ticket_in o.phase) flies
  where
    by : (x : Option ℕ) → option_map_or (λ u. u == k) x false ≡ true → x ≡ Some k
    by None flies = absurd cc
    by (Some u) flies = ap Some (eqb-true u k flies)

-- no sweep takes a frame in flight
swept_flies : (past : Past) (s : State) (k : ℕ) → IsRising s → IsFlown past.reached s → is_flying (swept past.seen past.reached s) k ≡ is_flying s k
swept_flies past s k rising flown = same_truth (is_flying (swept past.seen past.reached s) k) (is_flying s k) there back
  where
    there : is_flying (swept past.seen past.reached s) k ≡ true → is_flying s k ≡ true
    there flies =
        let one : (h : ℕ) × (o : Object) × (object_at (swept past.seen past.reached s) h ≡ Some o) × (is_in_flight k o ≡ true) =
        one_that_passes (λ entry. is_in_flight k entry.1) 1 (swept past.seen past.reached s).next (swept past.seen past.reached s).objects (sweep_rises past s rising) flies in
        some_passes (λ entry. is_in_flight k entry.1) one.0 s.objects one.1 (swept_was past s one.0 one.1 rising one.2).0 one.3

    stays : (h : ℕ) (o : Object) → object_at s h ≡ Some o → is_in_flight k o ≡ true → object_at (swept past.seen past.reached s) h ≡ Some o
    stays h o found flies =
        ap (at h) (swept_objects past s) ∙ at_filter (lives (root_of past s) s.objects) h 1 s.next s.objects rising
        ∙ ap (option_filter (λ v. lives (root_of past s) s.objects (h, v))) found
        ∙ ap (λ t. cond t (Some o) None)
        (or_left (root_of past s (h, o)) _ (reached_is_root (public past.seen) (is_reached past.reached s) h o (flying_is_reached past.reached s h k o flown found (has_ticket k o flies))))

    back : is_flying s k ≡ true → is_flying (swept past.seen past.reached s) k ≡ true
    back flies =
        let one : (h : ℕ) × (o : Object) × (object_at s h ≡ Some o) × (is_in_flight k o ≡ true) =
        one_that_passes (λ entry. is_in_flight k entry.1) 1 s.next s.objects rising flies in
        some_passes (λ entry. is_in_flight k entry.1) one.0 (swept past.seen past.reached s).objects one.1 (stays one.0 one.1 one.2 one.3) one.3

-- so the flights after an entry are those of its change
pub flights_after : (history : History) (e : Entry) (k : ℕ) →
    has k (flights (step (after history) e).state) ≡ (is_flying (changed (after history) e) k || has k (changed (after history) e).stopped)
flights_after history e k =
    flights_have (step (after history) e).state k
    ∙ ap (λ (s : State). is_flying s k || has k s.stopped) (step_state (after history) e)
    ∙ ap (λ us. is_flying (swept (step (after history) e).seen (step (after history) e).reached (changed (after history) e)) k || has k us) (swept_next (step (after history) e) (changed (after history) e)).1
    ∙ ap (λ t. t || has k (changed (after history) e).stopped)
    (swept_flies (step (after history) e) (changed (after history) e) k (changed_rises (after history) e (rises history)).0 (flown_changed history e (flown history)))

-- a test beside others
none_of : (b : Bool) → false ≡ (b && false)
none_of true = refl
none_of false = refl

both : (b x y : Bool) → ((b && x) || (b && y)) ≡ (b && (x || y))
both true x y = refl
both false x y = refl

-- a frame whose flight ends
ends_flight : (t k : ℕ) (o : Object) → is_in_flight k (end_flight t Empty o) ≡ (not (k == t) && is_in_flight k o)
unfolding end_flight
ends_flight t k o = by (is_in_flight t o) refl
  where
    other : (x : Option ℕ) → option_map_or (λ u. u == t) x false ≡ false → option_map_or (λ u. u == k) x false ≡ (not (k == t) && option_map_or (λ u. u == k) x false)
    other None is = none_of (not (k == t))
    other (Some v) is = of (v == k) refl
      where
        of : (b : Bool) → (v == k) ≡ b → b ≡ (not (k == t) && b)
        of false test = none_of (not (k == t))
        of true test =
            let apart : not (k == t) ≡ true = ap not (ap (λ v. v == t) (sym (eqb-true v k test)) ∙ is) in
            sym (ap (λ b. b && true) apart)

    this : (x : Option ℕ) → option_map_or (λ u. u == t) x false ≡ true → false ≡ (not (k == t) && option_map_or (λ u. u == k) x false)
    this None is = absurd cc
    this (Some v) is = of (k == t) refl
      where
        of : (b : Bool) → (k == t) ≡ b → false ≡ (not b && (v == k))
        of true test = refl
        of false test = of_other (v == k) refl
          where
            of_other : (c : Bool) → (v == k) ≡ c → false ≡ c
            of_other false same = refl
            of_other true same = let here : (k == t) ≡ true = ap (λ v. v == t) (sym (eqb-true v k same)) ∙ is in absurd cc

    by : (b : Bool) → is_in_flight t o ≡ b → is_in_flight k (end_flight t Empty o) ≡ (not (k == t) && is_in_flight k o)
    by true is = ap (λ b. is_in_flight k (cond b (set_phase Empty o) o)) is ∙ this (ticket_in o.phase) is
    by false is = ap (λ b. is_in_flight k (cond b (set_phase Empty o) o)) is ∙ other (ticket_in o.phase) is

ends_flights : (t k : ℕ) (es : List (ℕ × Object)) →
    list_any (λ (entry : ℕ × Object). is_in_flight k entry.1) (map (λ (entry : ℕ × Object). (entry.0, end_flight t Empty entry.1)) es) ≡ (not (k == t) && list_any (λ (entry : ℕ × Object). is_in_flight k entry.1) es)
ends_flights t k [] = none_of (not (k == t))
ends_flights t k (e ∷ es) =
    ap (λ x. x || list_any (λ (entry : ℕ × Object). is_in_flight k entry.1) (map (λ (entry : ℕ × Object). (entry.0, end_flight t Empty entry.1)) es)) (ends_flight t k e.1)
    ∙ ap (λ x. (not (k == t) && is_in_flight k e.1) || x) (ends_flights t k es)
    ∙ both (not (k == t)) (is_in_flight k e.1) (list_any (λ (entry : ℕ × Object). is_in_flight k entry.1) es)

-- the flights without one that left
pub flights_without : (history : History) (t k : ℕ) → has k (flights (step (after history) (Left t)).state) ≡ (not (k == t) && has k (flights (after history).state))
unfolding change end_flights
flights_without history t k =
    flights_after history (Left t) k
    ∙ ap (λ x. x || has k (filter (λ u. not (u == t)) (after history).state.stopped)) (ends_flights t k (after history).state.objects)
    ∙ ap (λ x. (not (k == t) && is_flying (after history).state k) || x)
    (any-filter_same (λ v. v == k) (λ u. not (u == t)) (not (k == t)) (λ v is. ap (λ v. not (v == t)) (eqb-true v k is)) (after history).state.stopped)
    ∙ both (not (k == t)) (is_flying (after history).state k) (has k (after history).state.stopped)
    ∙ ap (λ x. not (k == t) && x) (sym (flights_have (after history).state k))

-- no ticket is 0
zero_first : has 0 (after []).state.stopped ≡ false
unfolding after
zero_first = refl

zero_not_stopped : (history : History) → has 0 (after history).state.stopped ≡ false
zero_not_stopped history = grows_by (λ history. has 0 (after history).state.stopped ≡ false) zero_first more history
  where
    more : (history : History) (e : Entry) → has 0 (after history).state.stopped ≡ false → has 0 (after (history ++ e ∷ [])).state.stopped ≡ false
    more history e now = by (has 0 (after (history ++ e ∷ [])).state.stopped) refl
      where
        by : (t : Bool) → has 0 (after (history ++ e ∷ [])).state.stopped ≡ t → t ≡ false
        by false is = refl
        by true is =
            of (stops (next_place (after history)) e (after history).state (changed (after history) e) (entry_changes (next_place (after history)) e (after history).state) 0
            (sym (ap (has 0) (swept_next (step (after history) e) (changed (after history) e)).1)
            ∙ sym (ap (λ (s : State). has 0 s.stopped) (step_state (after history) e)) ∙ sym (ap (λ (past : Past). has 0 past.state.stopped) (after_more history e)) ∙ is))
          where
            of : (has 0 (after history).state.stopped ≡ true)
                ⊎ ((h : ℕ) × (p : Object) × (object_at (after history).state h ≡ Some p) × (p.phase ≡ Flight 0) × ((o : Object) → object_at (changed (after history) e) h ≡ Some o → o.phase ≡ Empty)) → true ≡ false
            of (inl old) = sym old ∙ now
            of (inr (h, p, was, flew, empties)) =
                let inside : (0 < 0) × (0 ≤ length history) = frame_within history 0 h (own_tickets history h 0 p was (ticket_in_flight p.phase 0 (ap ticket_in flew))) in
                absurd (omega (arith, inside.0))

pub no_ticket_zero : (history : History) → has 0 (flights (after history).state) ≡ false
no_ticket_zero history = flights_have (after history).state 0 ∙ ap (λ t. is_flying (after history).state 0 || t) (zero_not_stopped history) ∙ by (is_flying (after history).state 0) refl
  where
    by : (t : Bool) → is_flying (after history).state 0 ≡ t → (t || false) ≡ false
    by false is = refl
    by true is =
        let one : (h : ℕ) × (o : Object) × (object_at (after history).state h ≡ Some o) × (is_in_flight 0 o ≡ true) =
        one_that_passes (λ entry. is_in_flight 0 entry.1) 1 (after history).state.next (after history).state.objects (rises history) is in
        let inside : (0 < 0) × (0 ≤ length history) = frame_within history 0 one.0 (own_tickets history one.0 0 one.1 one.2 (ticket_in_flight one.1.phase 0 (has_ticket 0 one.1 one.3))) in
        absurd (omega (arith, inside.0))

-- a frame whose flight ends has no ticket any more
ticket_ends : (t : ℕ) (phase : Phase) (o : Object) → ticket_in phase ≡ None → ticket_in (end_flight t phase o).phase ≡ cond (is_in_flight t o) None (ticket_in o.phase)
unfolding end_flight
ticket_ends t phase o none = by (is_in_flight t o)
  where
    by : (b : Bool) → ticket_in (cond b (set_phase phase o) o).phase ≡ cond b None (ticket_in o.phase)
    by true = none
    by false = refl

one_ends : (t : ℕ) (x : Option ℕ) (few many : List ℕ) (later : Bool) → length few + cond {A = ℕ} later 1 0 ≤ length many →
    length (cons_option (cond (option_map_or (λ u. u == t) x false) None x) few) + cond {A = ℕ} (option_map_or (λ u. u == t) x false || later) 1 0 ≤ length (cons_option x many)
one_ends t None few many later less = less
one_ends t (Some u) few many later less = by (u == t)
  where
    by : (b : Bool) → length (cons_option (cond b None (Some u)) few) + cond {A = ℕ} (b || later) 1 0 ≤ length (u ∷ many)
    by true = omega (arith, less)
    by false = omega (arith, less)

frames_fewer : (t : ℕ) (phase : Phase) (es : List (ℕ × Object)) → ticket_in phase ≡ None →
    length (filter_map (λ (entry : ℕ × Object). ticket_in entry.1.phase) (map (λ (entry : ℕ × Object). (entry.0, end_flight t phase entry.1)) es))
    + cond {A = ℕ} (list_any (λ (entry : ℕ × Object). is_in_flight t entry.1) es) 1 0
    ≤ length (filter_map (λ (entry : ℕ × Object). ticket_in entry.1.phase) es)
frames_fewer t phase [] none = omega arith
frames_fewer t phase (e ∷ es) none =
    let frames : List ℕ = filter_map (λ (entry : ℕ × Object). ticket_in entry.1.phase) es in
    let ended : List ℕ = filter_map (λ (entry : ℕ × Object). ticket_in entry.1.phase) (map (λ (entry : ℕ × Object). (entry.0, end_flight t phase entry.1)) es) in
    let later : Bool = list_any (λ (entry : ℕ × Object). is_in_flight t entry.1) es in
    subst (λ x. length (cons_option x ended) + cond {A = ℕ} (is_in_flight t e.1 || later) 1 0 ≤ length (cons_option (ticket_in e.1.phase) frames))
    (sym (ticket_ends t phase e.1 none)) (one_ends t (ticket_in e.1.phase) ended frames later (frames_fewer t phase es none))

stopped_fewer : (t : ℕ) (us : List ℕ) → length (filter (λ u. not (u == t)) us) + cond {A = ℕ} (has t us) 1 0 ≤ length us
stopped_fewer t [] = omega arith
stopped_fewer t (u ∷ us) = by (u == t) (has t us) (stopped_fewer t us)
  where
    by : (b later : Bool) → length (filter (λ u. not (u == t)) us) + cond {A = ℕ} later 1 0 ≤ length us →
        length (cond (not b) (u ∷ filter (λ u. not (u == t)) us) (filter (λ u. not (u == t)) us)) + cond {A = ℕ} (b || later) 1 0 ≤ length (u ∷ us)
    by true later less = omega (arith, less)
    by false later less = omega (arith, less)

-- so there is one flight less where one ends
pub finished_frees : (place t : ℕ) (s : State) → is_flying s t ≡ true → length (flights (change place (Finished t) s)) + 1 ≤ length (flights s)
unfolding change end_flights
finished_frees place t s flies =
    let frames : List ℕ = filter_map (λ (entry : ℕ × Object). ticket_in entry.1.phase) s.objects in
    let ended : List ℕ = filter_map (λ (entry : ℕ × Object). ticket_in entry.1.phase) (map (λ (entry : ℕ × Object). (entry.0, end_flight t (Done t) entry.1)) s.objects) in
    let one : cond {A = ℕ} (is_flying s t) 1 0 ≡ 1 = ap (λ b. cond {A = ℕ} b 1 0) flies in
    omega (arith, one, frames_fewer t (Done t) s.objects refl, length-append frames s.stopped, length-append ended s.stopped)

-- or leaves
pub left_frees : (place t : ℕ) (s : State) → has t (flights s) ≡ true → length (flights (change place (Left t) s)) + 1 ≤ length (flights s)
unfolding change end_flights
left_frees place t s there =
    let frames : List ℕ = filter_map (λ (entry : ℕ × Object). ticket_in entry.1.phase) s.objects in
    let ended : List ℕ = filter_map (λ (entry : ℕ × Object). ticket_in entry.1.phase) (map (λ (entry : ℕ × Object). (entry.0, end_flight t Empty entry.1)) s.objects) in
    omega (
      arith,
      one (or_cases (is_flying s t) (has t s.stopped) (sym (flights_have s t) ∙ there)),
      frames_fewer t Empty s.objects refl,
      stopped_fewer t s.stopped,
      length-append frames s.stopped,
      length-append ended (filter (λ u. not (u == t)) s.stopped),
    )
  where
    one : (is_flying s t ≡ true) ⊎ (has t s.stopped ≡ true) → 1 ≤ cond {A = ℕ} (is_flying s t) 1 0 + cond {A = ℕ} (has t s.stopped) 1 0
    one (inl flies) = let first : cond {A = ℕ} (is_flying s t) 1 0 ≡ 1 = ap (λ b. cond {A = ℕ} b 1 0) flies in omega (arith, first)
    one (inr stopped) = let second : cond {A = ℕ} (has t s.stopped) 1 0 ≡ 1 = ap (λ b. cond {A = ℕ} b 1 0) stopped in omega (arith, second)
