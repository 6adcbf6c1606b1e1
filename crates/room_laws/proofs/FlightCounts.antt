-- How many flights there are after an entry.
use Rattle.std.proofs.Common.{◌≡◌, ◌∙◌, ◌⊎◌, inl, inr, ◌+◌, ◌≤◌, ◌==◌, ◌||◌, ◌++◌, ◌∷◌, ℕ, Bool, true, false, not, cond, List, [], Option, Some, None, length, length-append, map, refl, sym, ap, subst, arith}
use Rattle.std.specs.Prelude.{count_by}
use Rattle.std.specs.List.{cons_option, filter, filter_map, list_any, sum_by}
use Rattle.std.specs.Option.{option_and_then, option_map, option_map_or, unwrap_or}
use Rattle.std.proofs.lemmas.List.Sums.{sum_by-cons}
use Rattle.dev_types.specs.declared.data_types.DataType.TheVariants as ty
use Rattle.dev_types.specs.declared.handles.Origin.TheVariants.{Managed}
use Rattle.dev_types.specs.declared.values.Value.TheVariants as value
use Rattle.kind_tables.specs.Kinds.{kind_of}
use Rattle.kind_tables.specs.SceneObjects.{with_value, without_value}
use Rattle.kind_tables.specs.declared.kinds.Kind.{Kind}
use Rattle.kind_tables.specs.declared.kinds.Kind.TheVariants.{Array}
use Rattle.seq_model.specs.Deaths.{changed_by}
use Rattle.seq_model.specs.Histories.{History, public}
use Rattle.seq_model.specs.Legal.{Legal, is_flying}
use Rattle.seq_model.specs.Life.{grown, has, is_named_by, is_root, live}
use Rattle.seq_model.specs.State.{content_of_loan, Done, Empty, Flight, Object, ParameterLoan, Phase, State, changed_at, flights, is_in_flight, object_at, parameter_loan, ticket_in, with_object}
use Rattle.seq_model.specs.Steps.{Past, after, change, change_array, commit, discard, effect, end_flight, end_flights, end_parameter_loan, fresh, fresh_array, holding, is_reached, lend_parameter, lent, map_channel, set_phase, set_staged, step, stop, swept, take_in, unmap_channel, unmap_parameter}
use Rattle.seq_model.specs.declared.calls.Call.{Call}
use Rattle.seq_model.specs.declared.calls.Call.TheVariants.{Commit, DiscardFrame, MapArray, MapFrame, MapParameterArray, NewArray, NewObject, RenderFrame, SetParameter, UnmapArray, UnmapFrame, UnmapParameterArray, UnsetAll, UnsetParameter}
use Rattle.seq_model.specs.declared.calls.Entry.{Entry}
use Rattle.seq_model.specs.declared.calls.Entry.TheVariants.{Called, Closed, Finished, Left}
use Rattle.seq_model.specs.declared.calls.Reply.{Reply}
use Rattle.seq_model.specs.declared.calls.Reply.TheVariants as reply
use Rattle.seq_model.proofs.Afters.{after_more}
use Rattle.seq_model.proofs.Prefixes.{in_place}
use Rattle.room_laws.proofs.ObjectSums.{fewer_total, more_total, new_total, same_total, total, changed_total}

-- ---- the flights of a state: a frame in flight is one, and those that were stopped

abbrev of_ticket : Option ℕ → ℕ
of_ticket ticket = option_map_or (λ _. 1) ticket 0

abbrev in_air : Object → ℕ
in_air o = of_ticket (ticket_in o.phase)

abbrev in_flight : ℕ × Object → ℕ
in_flight e = in_air e.1

abbrev flying : State → ℕ
flying s = total in_air s + length s.stopped

tickets_counted : (es : List (ℕ × Object)) → length (filter_map (λ entry. ticket_in entry.1.phase) es) ≡ sum_by in_flight es
tickets_counted [] = refl
tickets_counted (e ∷ es) = by (ticket_in e.1.phase) (tickets_counted es) ∙ sym (sum_by-cons in_flight e es)
  where
    by : (ticket : Option ℕ) → length (filter_map (λ entry. ticket_in entry.1.phase) es) ≡ sum_by in_flight es → length (cons_option ticket (filter_map (λ entry. ticket_in entry.1.phase) es)) ≡ of_ticket ticket + sum_by in_flight es
    by None rest = omega (arith, rest)
    by (Some t) rest = omega (arith, rest)

flights_counted : (s : State) → length (flights s) ≡ flying s
flights_counted s = length-append (filter_map (λ entry. ticket_in entry.1.phase) s.objects) s.stopped ∙ ap (λ n. n + length s.stopped) (tickets_counted s.objects)

-- ---- what a call does to them

-- how many flights a call begins, and how many end by an entry
abbrev pub begins : Entry → ℕ
begins (Called _ (RenderFrame _) reply.Done) = 1
begins e = 0

abbrev pub ends : Entry → ℕ
ends (Finished _) = 1
ends (Left _) = 1
ends e = 0

still : (h : ℕ) (f : Object → Object) (s : State) → ((o : Object) → in_air (f o) ≡ in_air o) → flying (changed_at h f s) ≤ flying s + 0
still h f s same = let all = same_total in_air h f s same in omega (arith, all)

made_air : (kind : Option Kind) (s : State) → flying (unwrap_or (option_map (λ kind. with_object (fresh kind None) s) kind) s) ≤ flying s + 0
made_air None s = omega arith
made_air (Some kind) s = let all = new_total in_air (fresh kind None) s refl in omega (arith, all)

stopped_air : (h : ℕ) (s : State) (x : Option Object) → object_at s h ≡ x → flying (stop (option_map_or (λ (o : Object). o.phase) x Empty) (changed_at h (set_phase Empty) s)) ≤ flying s + 0
stopped_air h s None none = let all = more_total in_air h 0 (set_phase Empty) s (λ o. omega arith) in omega (arith, all)
stopped_air h s (Some o) there = by o.phase refl
  where
    all : total in_air (changed_at h (set_phase Empty) s) + in_air o ≡ total in_air s + 0
    all = changed_total in_air h (set_phase Empty) s o there

    by : (phase : Phase) → o.phase ≡ phase → flying (stop phase (changed_at h (set_phase Empty) s)) ≤ flying s + 0
    by Empty is = omega (arith, all)
    by (Done t) is = omega (arith, all)
    by (Flight t) is = let one = ap (λ phase. of_ticket (ticket_in phase)) is in let more = length-append s.stopped (t ∷ []) in omega (arith, all, one, more)

taken_air : (h : ℕ) (name bytes : List ℕ) (s : State) (found : Option ParameterLoan) → flying (option_map_or (λ loan. take_in h name bytes loan s) found s) ≤ flying s + 0
unfolding take_in
taken_air h name bytes s None = omega arith
taken_air h name bytes s (Some loan) =
    let ended : State = changed_at h (end_parameter_loan loan.number) s in
    let staged : State = changed_at h (set_staged (with_value name (value.Object ty.Array1D s.next))) ended in
    let first = same_total in_air h (end_parameter_loan loan.number) s (λ o. refl) in
    let second = same_total in_air h (set_staged (with_value name (value.Object ty.Array1D s.next))) ended (λ o. refl) in
    let third = new_total in_air (fresh (Array loan.elem) (Some (record { block = content_of_loan loan bytes; origin = Managed; loan = None }))) staged refl in
    omega (arith, first, second, third)

call_air : (place actor : ℕ) (call : Call) (r : Reply) (s : State) → flying (effect place call r s) ≤ flying s + begins (Called actor call r)
unfolding effect unmap_parameter discard
call_air place actor (NewObject t subtype) (reply.Made n) s = made_air (kind_of t subtype) s
call_air place actor (NewArray elem count stride origin bytes) (reply.Made n) s = let all = new_total in_air (fresh_array elem count stride origin bytes) s refl in omega (arith, all)
call_air place actor (SetParameter h name v) reply.Done s = still h (set_staged (with_value name v)) s (λ o. refl)
call_air place actor (UnsetParameter h name) reply.Done s = still h (set_staged (without_value name)) s (λ o. refl)
call_air place actor (UnsetAll h) reply.Done s = still h (set_staged (λ _. [])) s (λ o. refl)
call_air place actor (Commit h) reply.Done s = still h commit s (λ o. refl)
call_air place actor (MapArray h) (reply.Lent n) s = still h (change_array (lent place)) s (λ o. refl)
call_air place actor (UnmapArray h number bytes) reply.Done s = still h (change_array (holding bytes)) s (λ o. refl)
call_air place actor (MapParameterArray h name elem count) (reply.Lent n) s =
    still h (lend_parameter (record { number = place; name = name; elem = elem; count = count })) s (λ o. refl)
call_air place actor (UnmapParameterArray h name number bytes) (reply.Made n) s =
    taken_air h name bytes s (option_and_then (λ (o : Object). parameter_loan number o.parameter_loans) (object_at s h))
call_air place actor (RenderFrame h) reply.Done s = let all = more_total in_air h 1 (set_phase (Flight place)) s (λ o. omega arith) in omega (arith, all)
call_air place actor (DiscardFrame h) reply.Done s = stopped_air h s (object_at s h) refl
call_air place actor (MapFrame h c) (reply.Mapped width height t rows) s = still h (map_channel c place) s (λ o. refl)
call_air place actor (UnmapFrame h number) reply.Done s = still h (unmap_channel number) s (λ o. refl)
call_air place actor call r s = omega arith

-- ---- what a note does to them

some_ticket : (t : ℕ) (ticket : Option ℕ) → option_map_or (λ u. u == t) ticket false ≡ true → of_ticket ticket ≡ 1
some_ticket t None is = absurd cc
some_ticket t (Some u) is = refl

abbrev is_in_air : ℕ → ℕ × Object → Bool
is_in_air t e = is_in_flight t e.1

-- the frames in flight with a ticket are in flight no more
ended_one : (t : ℕ) (phase : Phase) (o : Object) → ticket_in phase ≡ None → in_air (end_flight t phase o) + cond (is_in_flight t o) 1 0 ≡ in_air o
unfolding end_flight
ended_one t phase o none = by (is_in_flight t o) refl
  where
    by : (b : Bool) → is_in_flight t o ≡ b → in_air (cond b (set_phase phase o) o) + cond b 1 0 ≡ in_air o
    by true is = let nothing = ap of_ticket none in let one = some_ticket t (ticket_in o.phase) is in omega (arith, nothing, one)
    by false is = omega arith

ended_all : (t : ℕ) (phase : Phase) (es : List (ℕ × Object)) → ticket_in phase ≡ None →
    sum_by in_flight (map (λ e. (e.0, end_flight t phase e.1)) es) + count_by (is_in_air t) es ≡ sum_by in_flight es
ended_all t phase [] none = refl
ended_all t phase (e ∷ es) none =
    let one = ended_one t phase e.1 none in
    let rest = ended_all t phase es none in
    let left = sum_by-cons in_flight (e.0, end_flight t phase e.1) (map (λ e. (e.0, end_flight t phase e.1)) es) in
    let here = sum_by-cons (λ e. cond (is_in_air t e) 1 0) e es in
    let all = sum_by-cons in_flight e es in
    omega (arith, one, rest, left, here, all)

ended_total : (t : ℕ) (phase : Phase) (s : State) → ticket_in phase ≡ None → total in_air (end_flights t phase s) + count_by (is_in_air t) s.objects ≡ total in_air s
unfolding end_flights
ended_total t phase s none = ended_all t phase s.objects none

same_stopped : (t : ℕ) (phase : Phase) (s : State) → (end_flights t phase s).stopped ≡ s.stopped
unfolding end_flights
same_stopped t phase s = refl

abbrev one_where : Bool → ℕ
one_where b = cond b 1 0

any_counts : {X : Type 0} (p : X → Bool) (xs : List X) → list_any p xs ≡ true → 1 ≤ count_by p xs
any_counts p [] any = absurd cc
any_counts p (x ∷ xs) any = by (p x) refl any (any_counts p xs)
  where
    by : (b : Bool) → p x ≡ b → (b || list_any p xs) ≡ true → (list_any p xs ≡ true → 1 ≤ count_by p xs) → 1 ≤ count_by p (x ∷ xs)
    by true is any rest = let all = sum_by-cons (λ x. cond (p x) 1 0) x xs in let one = ap one_where is in omega (arith, all, one)
    by false is any rest = let all = sum_by-cons (λ x. cond (p x) 1 0) x xs in let least = rest any in omega (arith, all, least)

filtered : {X : Type 0} (p : X → Bool) (xs : List X) → length (filter (λ x. not (p x)) xs) + count_by p xs ≡ length xs
filtered p [] = refl
filtered p (x ∷ xs) = by (p x) refl (filtered p xs)
  where
    by : (b : Bool) → p x ≡ b → length (filter (λ x. not (p x)) xs) + count_by p xs ≡ length xs →
        length (cond (not b) (x ∷ filter (λ x. not (p x)) xs) (filter (λ x. not (p x)) xs)) + count_by p (x ∷ xs) ≡ length (x ∷ xs)
    by true is rest = let all = sum_by-cons (λ x. cond (p x) 1 0) x xs in let one = ap one_where is in omega (arith, all, one, rest)
    by false is rest = let all = sum_by-cons (λ x. cond (p x) 1 0) x xs in let none = ap one_where is in omega (arith, all, none, rest)

finished_air : (t : ℕ) (s : State) → is_flying s t ≡ true → flying (end_flights t (Done t) s) + 1 ≤ flying s
finished_air t s flies =
    let all = ended_total t (Done t) s refl in
    let some = any_counts (is_in_air t) s.objects flies in
    let same = ap length (same_stopped t (Done t) s) in
    omega (arith, all, some, same)

left_air : (t : ℕ) (s : State) → (has t s.stopped ≡ true) ⊎ (is_flying s t ≡ true) → flying (record (end_flights t Empty s) { stopped = filter (λ u. not (u == t)) s.stopped }) + 1 ≤ flying s
left_air t s place =
    let all = ended_total t Empty s refl in
    let rest = filtered (λ u. u == t) s.stopped in
    by place all rest
  where
    by : (has t s.stopped ≡ true) ⊎ (is_flying s t ≡ true) → total in_air (end_flights t Empty s) + count_by (is_in_air t) s.objects ≡ total in_air s →
        length (filter (λ u. not (u == t)) s.stopped) + count_by (λ u. u == t) s.stopped ≡ length s.stopped →
        flying (record (end_flights t Empty s) { stopped = filter (λ u. not (u == t)) s.stopped }) + 1 ≤ flying s
    by (inl stopped) all rest = let some = any_counts (λ u. u == t) s.stopped stopped in omega (arith, all, rest, some)
    by (inr flies) all rest = let some = any_counts (is_in_air t) s.objects flies in omega (arith, all, rest, some)

-- ---- all entries, and the sweep after them

changed_air : (history : History) (e : Entry) → Legal (history ++ e ∷ []) → flying (changed_by history e) + ends e ≤ flying (after history).state + begins e
unfolding change
changed_air history (Called actor call r) legal = let all = call_air (length (after history).seen + 1) actor call r (after history).state in omega (arith, all)
changed_air history (Finished t) legal = let all = finished_air t (after history).state (in_place history (Finished t) [] legal) in omega (arith, all)
changed_air history (Left t) legal = let all = left_air t (after history).state (by (in_place history (Left t) [] legal)) in omega (arith, all)
  where
    by : (has t (after history).state.stopped ≡ true) ⊎ ((is_flying (after history).state t ≡ true) × (true ≡ true)) → (has t (after history).state.stopped ≡ true) ⊎ (is_flying (after history).state t ≡ true)
    by (inl stopped) = inl stopped
    by (inr flies) = inr flies.0
changed_air history Closed legal = omega arith

live_air : (public : ℕ → ℕ) (is_reached : ℕ → Bool) (objects : List (ℕ × Object)) → sum_by in_flight (live (is_root public is_reached) objects) ≤ sum_by in_flight objects
unfolding live grown
live_air public is_reached objects = fewer_total in_air (λ e. is_root public is_reached e || is_named_by (grown (is_root public is_reached) objects 9) e.0) objects

swept_air : (seen : History) (reached : List (ℕ × List ℕ)) (s : State) → flying (swept seen reached s) ≤ flying s
unfolding swept
swept_air seen reached s = let fewer = live_air (public seen) (is_reached reached s) s.objects in omega (arith, fewer)

left_flying : (history : History) (e : Entry) → flying (after (history ++ e ∷ [])).state ≤ flying (changed_by history e)
unfolding step
left_flying history e = subst (λ (past : Past). flying past.state ≤ flying (changed_by history e)) (sym (after_more history e)) (swept_air _ _ (changed_by history e))

pub flights_move : (history : History) (e : Entry) → Legal (history ++ e ∷ []) → length (flights (after (history ++ e ∷ [])).state) + ends e ≤ length (flights (after history).state) + begins e
flights_move history e legal =
    let before = flights_counted (after history).state in
    let now = flights_counted (after (history ++ e ∷ [])).state in
    let left = left_flying history e in
    let changed = changed_air history e legal in
    omega (arith, before, now, left, changed)
