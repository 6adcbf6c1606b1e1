-- Handles rise, and none is used again.
use Rattle.std.proofs.Common.{ℕ, ◌+◌, ◌==◌, not, Less, ◌≡◌, ◌<◌, ◌≤◌, ◌∙◌, Bool, List, [], ◌∷◌, ◌++◌, All, refl, sym, ap, subst, arith}
use Rattle.std.specs.Prelude.{◌||◌}
use Rattle.std.specs.List.{filter}
use Rattle.std.specs.List.{AllByRecursion}
use Rattle.std.specs.List.Sorted.{IsStrictlyIncreasing, IsStrictlySortedBy}
use Rattle.std.specs.Ordering.{nat_cmp}
use Rattle.std.proofs.lemmas.Bool.Decides.{nat_tests}
use Rattle.std.specs.Map.{keys_of}
use Rattle.std.proofs.lemmas.List.Elements.{All-nil, All-cons, All-weaker}
use Rattle.std.proofs.lemmas.Map.Keys.{IsStrictlyIncreasing-from_sorted}
use Rattle.std.proofs.lemmas.Map.Made.{keys_of-map_values}
use Rattle.seq_model.proofs.Afters.{after_both, after_by, keeps_by}
use Rattle.seq_model.proofs.Changes.{Change, Quiet, Making, Rendering, Discarding, Finishing, Leaving, Closing, IsQuiet, entry_changes, keys_of_changed}
use Rattle.seq_model.proofs.Keys.{RisesWithin, rises_filtered, rises_up, rises_with_next}
use Rattle.seq_model.specs.Histories.{History, public}
use Rattle.seq_model.specs.Life.{grown, is_named_by, is_root, live}
use Rattle.seq_model.specs.State.{Object, Phase, Empty, Flight, Done, State, changed_at, with_object}
use Rattle.seq_model.specs.Steps.{Past, after, change, discard, end_flight, end_flights, is_reached, next_place, set_phase, step, stop, swept}
use Rattle.seq_model.specs.declared.calls.Entry.{Entry}

-- the keys of a state rise, and stay below the next handle
abbrev pub IsRising : State → Type 0
IsRising s = RisesWithin 1 s.next (keys_of s.objects)

keys_with_object : (o : Object) (s : State) → keys_of (with_object o s).objects ≡ keys_of s.objects ++ s.next ∷ []
keys_with_object o s = of s.objects
  where
    of : (es : List (ℕ × Object)) → keys_of (es ++ (s.next, o) ∷ []) ≡ keys_of es ++ s.next ∷ []
    of [] = refl
    of (e ∷ es) = ap (λ ks. e.0 ∷ ks) (of es)

stop_keeps : (phase : Phase) (s : State) → ((stop phase s).objects ≡ s.objects) × ((stop phase s).next ≡ s.next)
stop_keeps (Flight t) s = (refl, refl)
stop_keeps Empty s = (refl, refl)
stop_keeps (Done t) s = (refl, refl)

pub rises_as : (s t : State) → keys_of t.objects ≡ keys_of s.objects → t.next ≡ s.next → IsRising s → IsRising t × (s.next ≤ t.next)
rises_as s t keys next rising =
    (subst (λ ks. RisesWithin 1 t.next ks) (sym keys) (subst (λ n. RisesWithin 1 n (keys_of s.objects)) (sym next) rising), omega (arith, next))

made_rises : (s t u : State) (o : Object) → IsQuiet s u → t ≡ with_object o u → IsRising s → IsRising t × (s.next ≤ t.next)
made_rises s t u o quiet is rising =
    let first : IsRising u × (s.next ≤ u.next) = rises_as s u quiet.keys quiet.next rising in
    let more : RisesWithin 1 (u.next + 1) (keys_of (with_object o u).objects) =
    subst (λ ks. RisesWithin 1 (u.next + 1) ks) (sym (keys_with_object o u)) (rises_with_next 1 u.next (keys_of u.objects) first.0) in
    subst (λ t. IsRising t × (s.next ≤ t.next)) (sym is) (more, omega (arith, first.1))

discarded_rises : (h : ℕ) (s : State) → IsRising s → IsRising (discard h s) × (s.next ≤ (discard h s).next)
unfolding discard
discarded_rises h s rising =
    let kept : ((stop _ (changed_at h (set_phase Empty) s)).objects ≡ (changed_at h (set_phase Empty) s).objects) × ((stop _ (changed_at h (set_phase Empty) s)).next ≡ s.next) =
    stop_keeps _ (changed_at h (set_phase Empty) s) in
    rises_as s (stop _ (changed_at h (set_phase Empty) s)) (ap keys_of kept.0 ∙ keys_of_changed h (set_phase Empty) s) kept.1 rising

ended_rises : (u : ℕ) (phase : Phase) (left : List ℕ) (s : State) → IsRising s →
    IsRising (record (end_flights u phase s) { stopped = left }) × (s.next ≤ (end_flights u phase s).next)
unfolding end_flights
ended_rises u phase left s rising = rises_as s (record (end_flights u phase s) { stopped = left }) (keys_of-map_values (end_flight u phase) s.objects) refl rising

pub change_rises : (place : ℕ) (e : Entry) (s t : State) → Change place e s t → IsRising s → IsRising t × (s.next ≤ t.next)
unfolding end_flights
change_rises place e s t (Quiet shows takes quiet) rising = rises_as s t quiet.keys quiet.next rising
change_rises place e s t (Making o u shows takes phase quiet is) rising = made_rises s t u o quiet is rising
change_rises place e s t (Rendering h shows takes is) rising =
    subst (λ t. IsRising t × (s.next ≤ t.next)) (sym is) (rises_as s (changed_at h (set_phase (Flight place)) s) (keys_of_changed h (set_phase (Flight place)) s) refl rising)
change_rises place e s t (Discarding h shows takes is) rising = subst (λ t. IsRising t × (s.next ≤ t.next)) (sym is) (discarded_rises h s rising)
change_rises place e s t (Finishing u entry is) rising = subst (λ t. IsRising t × (s.next ≤ t.next)) (sym is) (ended_rises u (Done u) s.stopped s rising)
change_rises place e s t (Leaving u entry is) rising = subst (λ t. IsRising t × (s.next ≤ t.next)) (sym is) (ended_rises u Empty (filter (λ v. not (v == u)) s.stopped) s rising)
change_rises place e s t (Closing entry is) rising =
    subst (λ t. IsRising t × (s.next ≤ t.next)) (sym is) (rises_up 1 s.next (keys_of s.objects) rising, omega arith)

-- the test by which the live objects are kept
abbrev pub lives : (ℕ × Object → Bool) → List (ℕ × Object) → ℕ × Object → Bool
lives is_root objects entry = is_root entry || is_named_by (grown is_root objects 9) entry.0

pub live_keeps : (is_root : ℕ × Object → Bool) (objects : List (ℕ × Object)) → live is_root objects ≡ filter (lives is_root objects) objects
unfolding live grown
live_keeps is_root objects = refl

-- what a step leads to, before what does not live is gone, and with what it has seen and reached
abbrev pub changed : Past → Entry → State
changed past e = change (next_place past) e past.state

pub step_state : (past : Past) (e : Entry) → (step past e).state ≡ swept (step past e).seen (step past e).reached (changed past e)
unfolding step
step_state past e = refl

-- the root test after a step
abbrev pub root_of : Past → State → ℕ × Object → Bool
root_of past s = is_root (public past.seen) (is_reached past.reached s)

pub swept_objects : (past : Past) (s : State) → (swept past.seen past.reached s).objects ≡ filter (lives (root_of past s) s.objects) s.objects
unfolding swept
swept_objects past s = live_keeps (root_of past s) s.objects

pub swept_next : (past : Past) (s : State) → ((swept past.seen past.reached s).next ≡ s.next) × ((swept past.seen past.reached s).stopped ≡ s.stopped)
unfolding swept
swept_next past s = (refl, refl)

pub sweep_rises : (past : Past) (s : State) → IsRising s → IsRising (swept past.seen past.reached s)
sweep_rises past s rising =
    let kept : RisesWithin 1 s.next (keys_of (filter (lives (root_of past s) s.objects) s.objects)) = rises_filtered (lives (root_of past s) s.objects) 1 s.next s.objects rising in
    let objects : RisesWithin 1 s.next (keys_of (swept past.seen past.reached s).objects) = subst (λ es. RisesWithin 1 s.next (keys_of es)) (sym (swept_objects past s)) kept in
    subst (λ n. RisesWithin 1 n (keys_of (swept past.seen past.reached s).objects)) (sym (swept_next past s).0) objects

pub changed_rises : (past : Past) (e : Entry) → IsRising past.state → IsRising (changed past e) × (past.state.next ≤ (changed past e).next)
changed_rises past e rising = change_rises (next_place past) e past.state (changed past e) (entry_changes (next_place past) e past.state) rising

pub step_rises : (past : Past) (e : Entry) → IsRising past.state → IsRising (step past e).state × (past.state.next ≤ (step past e).state.next)
step_rises past e rising =
    let changes : IsRising (changed past e) × (past.state.next ≤ (changed past e).next) = changed_rises past e rising in
    subst (λ s. IsRising s × (past.state.next ≤ s.next)) (sym (step_state past e))
    (sweep_rises (step past e) (changed past e) changes.0, omega (arith, changes.1, (swept_next (step past e) (changed past e)).0))

pub rises : (history : History) → IsRising (after history).state
rises history = after_by (λ past. IsRising past.state) (omega arith) (λ past e rising. (step_rises past e rising).0) history

-- the next handle never falls
pub next_grows : (history further : History) → (after history).state.next ≤ (after (history ++ further)).state.next
next_grows history further =
    subst (λ (past : Past). (after history).state.next ≤ past.state.next) (sym (after_both history further))
    (keeps_by (λ past. IsRising past.state × ((after history).state.next ≤ past.state.next))
    (λ past e now. let one : IsRising (step past e).state × (past.state.next ≤ (step past e).state.next) = step_rises past e now.0 in (one.0, omega (arith, now.1, one.1)))
    (after history) further (rises history, omega arith)).1

-- in std's words
all_above : (low high : ℕ) (ks : List ℕ) (k : ℕ) → k < low → RisesWithin low high ks → AllByRecursion (λ x. nat_cmp k x ≡ Less) ks
all_above low high [] k less up = tt
all_above low high (x ∷ ks) k less up =
    let smaller : k < x = omega (arith, up.0) in
    let lower : nat_cmp k x ≡ Less = grind (arith, nat_tests) in
    (lower, all_above (x + 1) high ks k (omega arith) up.1)

pub sorted : (low high : ℕ) (ks : List ℕ) → RisesWithin low high ks → IsStrictlySortedBy nat_cmp ks
unfolding IsStrictlySortedBy
sorted low high [] up = tt
sorted low high (k ∷ ks) up = (all_above (k + 1) high ks k (omega arith) up.1, sorted (k + 1) high ks up.1)

pub keys_above : (low high : ℕ) (ks : List ℕ) → RisesWithin low high ks → All (λ k. low ≤ k) ks
keys_above low high [] up = All-nil (λ (k : ℕ). low ≤ k)
keys_above low high (k ∷ ks) up =
    All-cons (λ (x : ℕ). low ≤ x) k ks up.0 (All-weaker (λ (x : ℕ). k + 1 ≤ x) (λ (x : ℕ). low ≤ x) (λ x h. omega (arith, h, up.0)) ks (keys_above (k + 1) high ks up.1))

pub keys_below : (low high : ℕ) (ks : List ℕ) → RisesWithin low high ks → All (λ k. k < high) ks
keys_below low high [] up = All-nil (λ (k : ℕ). k < high)
keys_below low high (k ∷ ks) up =
    let more : k + 1 ≤ high = rises_up (k + 1) high ks up.1 in
    All-cons (λ (x : ℕ). x < high) k ks (omega arith) (keys_below (k + 1) high ks up.1)

pub handles_rise : (history : History) → IsStrictlyIncreasing (keys_of (after history).state.objects)
handles_rise history = IsStrictlyIncreasing-from_sorted (keys_of (after history).state.objects) (sorted 1 (after history).state.next (keys_of (after history).state.objects) (rises history))

pub handles_are_used : (history : History) → All (λ h. 1 ≤ h) (keys_of (after history).state.objects)
handles_are_used history = keys_above 1 (after history).state.next (keys_of (after history).state.objects) (rises history)

pub handles_are_below : (history : History) → All (λ h. h < (after history).state.next) (keys_of (after history).state.objects)
handles_are_below history = keys_below 1 (after history).state.next (keys_of (after history).state.objects) (rises history)
