-- A state from which all that does not live is gone stays as it is in the next sweep.
use Rattle.std.proofs.Common.{ℕ, ◌+◌, ◌==◌, ◌≡◌, ◌<◌, ◌∙◌, Bool, true, false, List, [], ◌∷◌, ◌++◌, All, Option, Some, None, refl, sym, ap, subst, length, arith}
use Rattle.std.specs.Prelude.{cond}
use Rattle.std.specs.List.{filter, filter_map, flat_map, list_any}
use Rattle.std.specs.Option.{option_map, option_map_or, unwrap_or}
use Rattle.std.specs.BTreeMap.{is_at}
use Rattle.std.specs.Ordering.{nat_cmp}
use Rattle.std.proofs.lemmas.Bool.{eq-eqb, or_left, or_right}
use Rattle.std.proofs.lemmas.List.Elements.{All-head, All-tail}
use Rattle.std.proofs.lemmas.List.Folds.{list_any-append}
use Rattle.kind_tables.specs.SceneObjects.{SceneObject}
use Rattle.kind_tables.specs.Walks.{at_origin, below, visit, visited, walk, walk_from}
use Rattle.seq_model.proofs.Afters.{after_more, grows_by, seen_is_history}
use Rattle.seq_model.proofs.Came.{ComesFrom, IsNew, Was, Kept, Emptied, Started, Ended, change_back, swept_was}
use Rattle.seq_model.proofs.Changes.{entry_changes}
use Rattle.seq_model.proofs.Growths.{live_twice}
use Rattle.seq_model.proofs.Handles.{IsRising, changed_rises, changed, lives, rises, root_of, step_state, swept_objects, swept_next}
use Rattle.seq_model.proofs.Keys.{all_from_at, at, at_map, at_within}
use Rattle.seq_model.proofs.Reached.{carries, reach_early, reach_here, reach_of, step_reached}
use Rattle.seq_model.specs.Histories.{History, public, rendered}
use Rattle.seq_model.specs.Life.{grown, has, is_root, live}
use Rattle.seq_model.specs.State.{Object, State, flights, object_at, scene_object, scene_objects, ticket_in}
use Rattle.seq_model.specs.Steps.{Past, after, is_reached, is_reached_by, next_place, step, swept, with_reach}
use Rattle.seq_model.specs.declared.calls.Entry.{Entry}

-- every frame in flight was reached by its own flight
abbrev pub IsFlown : List (ℕ × List ℕ) → State → Type 0
IsFlown reached s = (k : ℕ) (o : Object) (u : ℕ) → object_at s k ≡ Some o → ticket_in o.phase ≡ Some u → is_reached_by reached u k ≡ true

reached_by_same : (old new : List (ℕ × List ℕ)) (u k : ℕ) → at u new ≡ at u old → is_reached_by old u k ≡ true → is_reached_by new u k ≡ true
unfolding is_reached_by
reached_by_same old new u k same is = ap (λ x. has k (unwrap_or x [])) same ∙ is

-- a flight that reached something is carried
carried : (reached : List (ℕ × List ℕ)) (u k : ℕ) → is_reached_by reached u k ≡ true → (hs : List ℕ) × (at u reached ≡ Some hs)
unfolding is_reached_by
carried reached u k is = by (at u reached) refl
  where
    by : (x : Option (List ℕ)) → at u reached ≡ x → (hs : List ℕ) × (at u reached ≡ Some hs)
    by (Some hs) found = (hs, found)
    by None found = let none : false ≡ true = sym (ap (λ x. has k (unwrap_or x [])) found) ∙ is in absurd cc

-- a walk visits what it starts from
starts_with : (s : State) (k : ℕ) (o : Object) → object_at s k ≡ Some o → has k (reach_of s k) ≡ true
unfolding walk walk_from
starts_with s k o found =
    let there : at k (scene_objects s) ≡ Some (scene_object o) = at_map scene_object k s.objects ∙ ap (option_map scene_object) found in
    let visits : walk (scene_objects s) k ≡ visit (at_origin, k) (scene_object o) ∷ flat_map (walk_from 9 (scene_objects s)) (below at_origin (scene_object o)) =
    ap (λ (x : Option SceneObject). option_map_or (λ o. visit (at_origin, k) o ∷ flat_map (walk_from 9 (scene_objects s)) (below at_origin o)) x []) there in
    ap (λ vs. has k (visited vs)) visits ∙ or_left (k == k) (has k (visited (flat_map (walk_from 9 (scene_objects s)) (below at_origin (scene_object o))))) (eq-eqb k k refl)

started_reaches : (place k f : ℕ) (p : Object) (r : Option ℕ) (s : State) (reached : List (ℕ × List ℕ)) → r ≡ Some k → at place reached ≡ None → object_at s k ≡ Some p →
    is_reached_by (with_reach place r s reached) place k ≡ true
unfolding is_reached_by
started_reaches place k f p r s reached is fresh there =
    ap (λ r. has k (unwrap_or (at place (with_reach place r s reached)) [])) is
    ∙ ap (λ x. has k (unwrap_or x [])) (reach_here place k s reached fresh) ∙ starts_with s k p there

flown_from : (place : ℕ) (e : Entry) (s : State) (reached : List (ℕ × List ℕ)) → ((u : ℕ) (hs : List ℕ) → at u reached ≡ Some hs → u < place) → at place reached ≡ None → IsFlown reached s →
    (k : ℕ) (o : Object) (u : ℕ) → ComesFrom place e s k o → ticket_in o.phase ≡ Some u → is_reached_by (with_reach place (rendered e) s reached) u k ≡ true
flown_from place e s reached early fresh flown k o u (IsNew new phase) flies = let none : None ≡ Some u = sym (ap ticket_in phase) ∙ flies in absurd cc
flown_from place e s reached early fresh flown k o u (Was p there kind takes (Kept phase)) flies =
    let old : is_reached_by reached u k ≡ true = flown k p u there (sym (ap ticket_in phase) ∙ flies) in
    let one : (hs : List ℕ) × (at u reached ≡ Some hs) = carried reached u k old in
    let less : u < place = early u one.0 one.1 in
    reached_by_same reached (with_reach place (rendered e) s reached) u k (reach_early place u (rendered e) s reached (λ same. omega (arith, less, same))) old
flown_from place e s reached early fresh flown k o u (Was p there kind takes (Emptied phase)) flies = let none : None ≡ Some u = sym (ap ticket_in phase) ∙ flies in absurd cc
flown_from place e s reached early fresh flown k o u (Was p there kind takes (Started is phase)) flies =
    let ticket : Some place ≡ Some u = sym (ap ticket_in phase) ∙ flies in
    let same : place ≡ u = cc in
    subst (λ u. is_reached_by (with_reach place (rendered e) s reached) u k ≡ true) same (started_reaches place k k p (rendered e) s reached is fresh there)
flown_from place e s reached early fresh flown k o u (Was p there kind takes (Ended v entry was phase)) flies = let none : None ≡ Some u = sym (ap ticket_in phase) ∙ flies in absurd cc

pub place_after : (history : History) → next_place (after history) ≡ length history + 1
place_after history = ap (λ (h : History). length h + 1) (seen_is_history history)

pub flown_changed : (history : History) (e : Entry) → IsFlown (after history).reached (after history).state → IsFlown (step (after history) e).reached (changed (after history) e)
flown_changed history e flown k o u found flies =
    let from : ComesFrom (length history + 1) e (after history).state k o =
    subst (λ n. ComesFrom n e (after history).state k o) (place_after history) (change_back (next_place (after history)) e (after history).state (changed (after history) e) (entry_changes (next_place (after history)) e (after history).state) k o found) in
    subst (λ reached. is_reached_by reached u k ≡ true) (sym (step_reached history e))
    (flown_from (length history + 1) e (after history).state (after history).reached early (nothing_at (length history + 1) refl) flown k o u from flies)
  where
    early : (u : ℕ) (hs : List ℕ) → at u (after history).reached ≡ Some hs → u < length history + 1
    early u hs there = (at_within u 1 (length history + 1) (after history).reached hs (carries history).within there).1

    nothing_at : (n : ℕ) → n ≡ length history + 1 → at n (after history).reached ≡ None
    nothing_at n is = by (at n (after history).reached) refl
      where
        by : (x : Option (List ℕ)) → at n (after history).reached ≡ x → x ≡ None
        by None there = refl
        by (Some hs) there = let less : n < length history + 1 = early n hs there in absurd (omega (arith, less, is))

flown_first : IsFlown (after []).reached (after []).state
unfolding after
flown_first k o u found flies = absurd cc

pub flown : (history : History) → IsFlown (after history).reached (after history).state
flown history = grows_by (λ history. IsFlown (after history).reached (after history).state) flown_first more history
  where
    more : (history : History) (e : Entry) → IsFlown (after history).reached (after history).state → IsFlown (after (history ++ e ∷ [])).reached (after (history ++ e ∷ [])).state
    more history e now =
        subst (λ (past : Past). IsFlown past.reached past.state) (sym (after_more history e))
        (λ k o u found flies. flown_changed history e now k o u
        (swept_was (step (after history) e) (changed (after history) e) k o (changed_rises (after history) e (rises history)).0 (ap (λ s. object_at s k) (sym (step_state (after history) e)) ∙ found)).0 flies)

-- what is gone is in no flight
any_of_tickets : (q : ℕ → Bool) (k u : ℕ) (o : Object) (es : List (ℕ × Object)) → at k es ≡ Some o → ticket_in o.phase ≡ Some u → q u ≡ true →
    list_any q (filter_map (λ entry. ticket_in entry.1.phase) es) ≡ true
any_of_tickets q k u o [] found flies passes = absurd cc
any_of_tickets q k u o (e ∷ es) found flies passes = by (is_at (nat_cmp k) e.0) refl (λ x. any_of_tickets q k u o es x flies passes)
  where
    later : (x : Option ℕ) → list_any q (filter_map (λ entry. ticket_in entry.1.phase) es) ≡ true →
        list_any q (filter_map (λ entry. ticket_in entry.1.phase) (e ∷ es)) ≡ true
    later x rest = of (ticket_in e.1.phase) refl
      where
        of : (y : Option ℕ) → ticket_in e.1.phase ≡ y → list_any q (filter_map (λ entry. ticket_in entry.1.phase) (e ∷ es)) ≡ true
        of None is = rw is rest
        of (Some v) is = rw is (or_right (q v) (list_any q (filter_map (λ entry. ticket_in entry.1.phase) es)) rest)

    by : (t : Bool) → is_at (nat_cmp k) e.0 ≡ t → (at k es ≡ Some o → list_any q (filter_map (λ entry. ticket_in entry.1.phase) es) ≡ true) →
        list_any q (filter_map (λ entry. ticket_in entry.1.phase) (e ∷ es)) ≡ true
    by true is rest =
        let value : Some e.1 ≡ Some o = rw is at found in
        let same : e.1 ≡ o = cc in
        let ticket : ticket_in e.1.phase ≡ Some u = ap (λ (x : Object). ticket_in x.phase) same ∙ flies in
        rw ticket (or_left (q u) (list_any q (filter_map (λ entry. ticket_in entry.1.phase) es)) passes)
    by false is rest = let there : at k es ≡ Some o = rw is at found in later None (rest there)

pub flying_is_reached : (reached : List (ℕ × List ℕ)) (s : State) (k u : ℕ) (o : Object) → IsFlown reached s → object_at s k ≡ Some o → ticket_in o.phase ≡ Some u → is_reached reached s k ≡ true
unfolding is_reached
flying_is_reached reached s k u o flown found flies =
    list_any-append (λ t. is_reached_by reached t k) (filter_map (λ entry. ticket_in entry.1.phase) s.objects) s.stopped
    ∙ or_left (list_any (λ t. is_reached_by reached t k) (filter_map (λ entry. ticket_in entry.1.phase) s.objects)) (list_any (λ t. is_reached_by reached t k) s.stopped)
    (any_of_tickets (λ t. is_reached_by reached t k) k u o s.objects found flies (flown k o u found flies))

pub reached_is_root : (public : ℕ → ℕ) (is_reached : ℕ → Bool) (k : ℕ) (o : Object) → is_reached k ≡ true → is_root public is_reached (k, o) ≡ true
unfolding is_root
reached_is_root public is_reached k o is = grind (arith, or_right)

kept_tickets : (p : ℕ × Object → Bool) (es : List (ℕ × Object)) → All (λ e. (u : ℕ) → ticket_in e.1.phase ≡ Some u → p e ≡ true) es →
    filter_map (λ entry. ticket_in entry.1.phase) (filter p es) ≡ filter_map (λ entry. ticket_in entry.1.phase) es
kept_tickets p [] kept = refl
kept_tickets p (e ∷ es) kept =
    by (p e) refl (ticket_in e.1.phase) refl (kept_tickets p es (All-tail (λ (e : ℕ × Object). (u : ℕ) → ticket_in e.1.phase ≡ Some u → p e ≡ true) e es kept))
  where
    by : (t : Bool) → p e ≡ t → (x : Option ℕ) → ticket_in e.1.phase ≡ x → filter_map (λ entry. ticket_in entry.1.phase) (filter p es) ≡ filter_map (λ entry. ticket_in entry.1.phase) es →
        filter_map (λ entry. ticket_in entry.1.phase) (cond t (e ∷ filter p es) (filter p es)) ≡ filter_map (λ entry. ticket_in entry.1.phase) (e ∷ es)
    by true is None ticket rest = rw ticket rest
    by true is (Some u) ticket rest = rw ticket (ap (λ us. u ∷ us) rest)
    by false is None ticket rest = rw ticket rest
    by false is (Some u) ticket rest =
        let passes : p e ≡ true = All-head (λ (e : ℕ × Object). (u : ℕ) → ticket_in e.1.phase ≡ Some u → p e ≡ true) e es kept u ticket in absurd cc

flights_stay : (past : Past) (s : State) → IsRising s → IsFlown past.reached s → flights (swept past.seen past.reached s) ≡ flights s
flights_stay past s rising flown =
    ap (λ es. filter_map (λ entry. ticket_in entry.1.phase) es ++ (swept past.seen past.reached s).stopped) (swept_objects past s)
    ∙ ap (λ us. us ++ (swept past.seen past.reached s).stopped) (kept_tickets (lives (root_of past s) s.objects) s.objects all)
    ∙ ap (λ us. filter_map (λ entry. ticket_in entry.1.phase) s.objects ++ us) (swept_next past s).1
  where
    each : (k : ℕ) (o : Object) → object_at s k ≡ Some o → (u : ℕ) → ticket_in o.phase ≡ Some u → lives (root_of past s) s.objects (k, o) ≡ true
    each k o found u flies =
        or_left (root_of past s (k, o)) _ (reached_is_root (public past.seen) (is_reached past.reached s) k o (flying_is_reached past.reached s k u o flown found flies))

    all : All (λ e. (u : ℕ) → ticket_in e.1.phase ≡ Some u → lives (root_of past s) s.objects e ≡ true) s.objects
    all = all_from_at (λ (e : ℕ × Object). (u : ℕ) → ticket_in e.1.phase ≡ Some u → lives (root_of past s) s.objects e ≡ true) 1 s.next s.objects rising each

same_roots : (past : Past) (s t : State) → flights s ≡ flights t → root_of past s ≡ root_of past t
unfolding is_reached
same_roots past s t same = ap (λ us. is_root (public past.seen) (λ h. list_any (λ t. is_reached_by past.reached t h) us)) same

pub swept_twice : (past : Past) (s : State) → IsRising s → IsFlown past.reached s → swept past.seen past.reached (swept past.seen past.reached s) ≡ swept past.seen past.reached s
unfolding swept
swept_twice past s rising flown =
    ap (λ root. record s { objects = live root (live (root_of past s) s.objects) }) (same_roots past (record s { objects = live (root_of past s) s.objects }) s (flights_stay past s rising flown))
    ∙ ap (λ es. record s { objects = es }) (live_twice (root_of past s) 1 s.next s.objects rising)

-- a state that no sweep changes
abbrev pub IsSwept : Past → Type 0
IsSwept past = swept past.seen past.reached past.state ≡ past.state

swept_first : IsSwept (after [])
unfolding after grown live swept
swept_first = refl

pub is_swept : (history : History) → IsSwept (after history)
is_swept history = grows_by (λ history. IsSwept (after history)) swept_first more history
  where
    more : (history : History) (e : Entry) → IsSwept (after history) → IsSwept (after (history ++ e ∷ []))
    more history e now =
        subst IsSwept (sym (after_more history e))
        (subst (λ s. swept (step (after history) e).seen (step (after history) e).reached s ≡ s) (sym (step_state (after history) e))
        (swept_twice (step (after history) e) (changed (after history) e) (changed_rises (after history) e (rises history)).0 (flown_changed history e (flown history))))

pub sweeps_once : (history : History) → swept history (after history).reached (after history).state ≡ (after history).state
sweeps_once history = subst (λ seen. swept seen (after history).reached (after history).state ≡ (after history).state) (seen_is_history history) (is_swept history)
