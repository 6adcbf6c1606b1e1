-- How many objects, flights and handles a state has, and how an entry moves them.
use Rattle.std.proofs.Common.{Bool, List, None, Option, Some, [], ap, arith, cond, false, length, refl, subst, sym, true, ℕ, ◌++◌, ◌+◌, ◌-◌, ◌∙◌, ◌∷◌, ◌≡◌, ◌≤◌}
use Rattle.std.specs.List.{cons_option, filter_map, filter}
use Rattle.std.specs.Map.{keys_of}
use Rattle.std.specs.Option.{option_map, option_map_or, unwrap_or, option_and_then}
use Rattle.std.proofs.lemmas.List.{length-append, length-map}
use Rattle.std.specs.Prelude.{◌==◌}
use Rattle.std.proofs.lemmas.Bool.{eqb-true}
use Rattle.seq_model.proofs.Afters.{after_more}
use Rattle.seq_model.proofs.Creations.{made_handle}
use Rattle.seq_model.proofs.Handles.{IsRising, step_state, swept_next, live_keeps, lives}
use Rattle.seq_model.proofs.Keys.{RisesWithin}
use Rattle.kind_tables.specs.Kinds.{kind_of}
use Rattle.kind_tables.specs.declared.kinds.Kind.{Kind}
use Rattle.seq_model.specs.Histories.{History}
use Rattle.seq_model.specs.Legal.{Legal}
use Rattle.seq_model.specs.State.{with_object, Object, ParameterLoan, Phase, Empty, Flight, Done, State, changed_at, flights, object_at, parameter_loan, ticket_in}
use Rattle.seq_model.specs.Steps.{fresh, Past, after, change, discard, effect, next_place, set_phase, step, stop, take_in, unmap_parameter}
use Rattle.seq_model.specs.declared.calls.Call.{Call}
use Rattle.seq_model.specs.declared.calls.Call.TheVariants.{NewObject, NewArray, Retain, SetParameter, UnsetParameter, UnsetAll, Commit, MapArray, UnmapArray, MapParameterArray, UnmapParameterArray, RenderFrame, DiscardFrame, MapFrame, UnmapFrame}
use Rattle.seq_model.specs.declared.calls.Entry.TheVariants.{Called}
use Rattle.seq_model.specs.declared.calls.Reply.{Reply}
use Rattle.seq_model.specs.declared.calls.Reply.TheVariants as reply
use Rattle.past_laws.specs.Making.{handles_made}
use Rattle.seq_model.specs.declared.calls.Entry.{Entry}
use Rattle.seq_model.specs.Life.{live}

-- no more keys than there is room for between the ends
pub few_keys : (low high : ℕ) (ks : List ℕ) → RisesWithin low high ks → length ks + low ≤ high
few_keys low high [] rising = omega (arith, rising)
few_keys low high (k ∷ ks) rising = omega (arith, rising.0, few_keys (k + 1) high ks rising.1)

few_some : {X Y : Type 0} (f : X → Option Y) (xs : List X) → length (filter_map f xs) ≤ length xs
few_some f [] = omega arith
few_some f (x ∷ xs) = by (f x) (few_some f xs)
  where
    by : (found : Option _) → length (filter_map f xs) ≤ length xs → length (cons_option found (filter_map f xs)) ≤ length (x ∷ xs)
    by None less = omega (arith, less)
    by (Some y) less = omega (arith, less)

-- no more flights than objects and stopped flights
pub few_flights : (s : State) → IsRising s → length (flights s) + 1 ≤ s.next + length s.stopped
few_flights s rising =
    omega (
      arith,
      few_keys 1 s.next (keys_of s.objects) rising,
      length-map s.objects (λ (e : ℕ × Object). e.0),
      few_some (λ (entry : ℕ × Object). ticket_in entry.1.phase) s.objects,
      length-append (filter_map (λ (entry : ℕ × Object). ticket_in entry.1.phase) s.objects) s.stopped,
    )

-- a stopped flight is one more at the most, and no handle is made
stop_next : (phase : Phase) (s : State) → (stop phase s).next ≡ s.next
stop_next Empty s = refl
stop_next (Flight t) s = refl
stop_next (Done t) s = refl

stop_adds : (phase : Phase) (s : State) → length (stop phase s).stopped ≤ length s.stopped + 1
stop_adds Empty s = omega arith
stop_adds (Flight t) s = omega (arith, length-append s.stopped (t ∷ []))
stop_adds (Done t) s = omega arith

-- a parameter array that comes back, where its loan is found
taken_stopped : (h : ℕ) (name bytes : List ℕ) (found : Option ParameterLoan) (s : State) → (option_map_or (λ loan. take_in h name bytes loan s) found s).stopped ≡ s.stopped
unfolding take_in
taken_stopped h name bytes None s = refl
taken_stopped h name bytes (Some loan) s = refl

taken_next : (h : ℕ) (name bytes : List ℕ) (found : Option ParameterLoan) (s : State) → (option_map_or (λ loan. take_in h name bytes loan s) found s).next ≤ s.next + 1
unfolding take_in
taken_next h name bytes None s = omega arith
taken_next h name bytes (Some loan) s = omega arith

kind_stopped : (found : Option Kind) (s : State) → (unwrap_or (option_map (λ kind. with_object (fresh kind None) s) found) s).stopped ≡ s.stopped
kind_stopped None s = refl
kind_stopped (Some kind) s = refl

-- the call discards a frame
abbrev discards : Call → Reply → Bool
discards (DiscardFrame h) reply.Done = true
discards c r = false

same_stopped : (place : ℕ) (c : Call) (r : Reply) (s : State) → discards c r ≡ false → (effect place c r s).stopped ≡ s.stopped
unfolding effect unmap_parameter
same_stopped place (NewObject t subtype) (reply.Made h) s none = kind_stopped (kind_of t subtype) s
same_stopped place (NewObject t subtype) _ s none = refl
same_stopped place (UnmapParameterArray h name number bytes) (reply.Made made) s none =
    taken_stopped h name bytes (option_and_then (λ o. parameter_loan number o.parameter_loans) (object_at s h)) s
same_stopped place (UnmapParameterArray h name number bytes) _ s none = refl
same_stopped place (DiscardFrame h) reply.Done s none = absurd cc
same_stopped place (DiscardFrame h) _ s none = refl
same_stopped place (Retain h) r s none = refl
same_stopped place (NewArray elem count stride origin bytes) (reply.Made h) s none = refl
same_stopped place (NewArray elem count stride origin bytes) _ s none = refl
same_stopped place (SetParameter h name v) reply.Done s none = refl
same_stopped place (SetParameter h name v) _ s none = refl
same_stopped place (UnsetParameter h name) reply.Done s none = refl
same_stopped place (UnsetParameter h name) _ s none = refl
same_stopped place (UnsetAll h) reply.Done s none = refl
same_stopped place (UnsetAll h) _ s none = refl
same_stopped place (Commit h) reply.Done s none = refl
same_stopped place (Commit h) _ s none = refl
same_stopped place (MapArray h) (reply.Lent n) s none = refl
same_stopped place (MapArray h) _ s none = refl
same_stopped place (UnmapArray h number bytes) reply.Done s none = refl
same_stopped place (UnmapArray h number bytes) _ s none = refl
same_stopped place (MapParameterArray h name elem count) (reply.Lent n) s none = refl
same_stopped place (MapParameterArray h name elem count) _ s none = refl
same_stopped place (RenderFrame h) reply.Done s none = refl
same_stopped place (RenderFrame h) _ s none = refl
same_stopped place (MapFrame h channel) (reply.Mapped w height t rows) s none = refl
same_stopped place (MapFrame h channel) _ s none = refl
same_stopped place (UnmapFrame h number) reply.Done s none = refl
same_stopped place (UnmapFrame h number) _ s none = refl
same_stopped place _ r s none = refl

discarded : (place : ℕ) (c : Call) (r : Reply) (s : State) → discards c r ≡ true → length (effect place c r s).stopped ≤ length s.stopped + 1
unfolding effect discard
discarded place (DiscardFrame h) reply.Done s is = stop_adds (option_map_or (λ o. o.phase) (object_at s h) Empty) (changed_at h (set_phase Empty) s)
discarded place (DiscardFrame h) _ s is = absurd cc
discarded place (Retain h) r s is = absurd cc
discarded place _ r s is = absurd cc

-- a call adds a stopped flight at the most
pub effect_stops : (place : ℕ) (c : Call) (r : Reply) (s : State) → length (effect place c r s).stopped ≤ length s.stopped + 1
effect_stops place c r s = by (discards c r) refl
  where
    by : (b : Bool) → discards c r ≡ b → length (effect place c r s).stopped ≤ length s.stopped + 1
    by false none = omega (arith, ap length (same_stopped place c r s none))
    by true is = discarded place c r s is

-- a call that makes no handle
same_next : (place : ℕ) (c : Call) (r : Reply) (s : State) → handles_made c r ≡ 0 → (effect place c r s).next ≡ s.next
unfolding effect discard
same_next place (NewObject t subtype) (reply.Made h) s none = absurd cc
same_next place (NewObject t subtype) _ s none = refl
same_next place (NewArray elem count stride origin bytes) (reply.Made h) s none = absurd cc
same_next place (NewArray elem count stride origin bytes) _ s none = refl
same_next place (UnmapParameterArray h name number bytes) (reply.Made made) s none = absurd cc
same_next place (UnmapParameterArray h name number bytes) _ s none = refl
same_next place (DiscardFrame h) reply.Done s none = stop_next (option_map_or (λ o. o.phase) (object_at s h) Empty) (changed_at h (set_phase Empty) s)
same_next place (DiscardFrame h) _ s none = refl
same_next place (Retain h) r s none = refl
same_next place (SetParameter h name v) reply.Done s none = refl
same_next place (SetParameter h name v) _ s none = refl
same_next place (UnsetParameter h name) reply.Done s none = refl
same_next place (UnsetParameter h name) _ s none = refl
same_next place (UnsetAll h) reply.Done s none = refl
same_next place (UnsetAll h) _ s none = refl
same_next place (Commit h) reply.Done s none = refl
same_next place (Commit h) _ s none = refl
same_next place (MapArray h) (reply.Lent n) s none = refl
same_next place (MapArray h) _ s none = refl
same_next place (UnmapArray h number bytes) reply.Done s none = refl
same_next place (UnmapArray h number bytes) _ s none = refl
same_next place (MapParameterArray h name elem count) (reply.Lent n) s none = refl
same_next place (MapParameterArray h name elem count) _ s none = refl
same_next place (RenderFrame h) reply.Done s none = refl
same_next place (RenderFrame h) _ s none = refl
same_next place (MapFrame h channel) (reply.Mapped w height t rows) s none = refl
same_next place (MapFrame h channel) _ s none = refl
same_next place (UnmapFrame h number) reply.Done s none = refl
same_next place (UnmapFrame h number) _ s none = refl
same_next place _ r s none = refl

next_of_change : (history : History) (e : Entry) → (change (next_place (after history)) e (after history).state).next ≡ (after (history ++ e ∷ [])).state.next
next_of_change history e =
    sym (ap (λ (past : Past). past.state.next) (after_more history e) ∙ ap (λ (s : State). s.next) (step_state (after history) e)
    ∙ (swept_next (step (after history) e) (change (next_place (after history)) e (after history).state)).0)

-- a call that makes handles makes one
one_made : (c : Call) (r : Reply) → (handles_made c r == 0) ≡ false → (h : ℕ) × (r ≡ reply.Made h) × (handles_made c r ≡ 1)
one_made (NewObject t subtype) (reply.Made h) some = (h, refl, refl)
one_made (NewObject t subtype) _ some = absurd cc
one_made (NewArray elem count stride origin bytes) (reply.Made h) some = (h, refl, refl)
one_made (NewArray elem count stride origin bytes) _ some = absurd cc
one_made (UnmapParameterArray h name number bytes) (reply.Made made) some = (made, refl, refl)
one_made (UnmapParameterArray h name number bytes) _ some = absurd cc
one_made (Retain h) r some = absurd cc
one_made _ r some = absurd cc

-- the next handle after a call
pub next_moves : (history : History) (actor : ℕ) (c : Call) (r : Reply) → Legal (history ++ Called actor c r ∷ []) →
    (change (next_place (after history)) (Called actor c r) (after history).state).next ≡ (after history).state.next + handles_made c r
unfolding change
next_moves history actor c r legal = by (handles_made c r == 0) refl
  where
    by : (b : Bool) → (handles_made c r == 0) ≡ b → (effect (next_place (after history)) c r (after history).state).next ≡ (after history).state.next + handles_made c r
    by true none =
        let no : handles_made c r ≡ 0 = eqb-true (handles_made c r) 0 none in
        omega (arith, no, same_next (next_place (after history)) c r (after history).state no)
    by false some =
        let one : (h : ℕ) × (r ≡ reply.Made h) × (handles_made c r ≡ 1) = one_made c r some in
        let made : (one.0 ≡ (after history).state.next) × ((after (history ++ Called actor c (reply.Made one.0) ∷ [])).state.next ≡ one.0 + 1) =
        made_handle history actor one.0 c (subst (λ r. Legal (history ++ Called actor c r ∷ [])) one.1 legal) in
        let same : (after (history ++ Called actor c r ∷ [])).state.next ≡ (after (history ++ Called actor c (reply.Made one.0) ∷ [])).state.next =
        ap (λ r. (after (history ++ Called actor c r ∷ [])).state.next) one.1 in
        omega (arith, next_of_change history (Called actor c r), same, made.0, made.1, one.2)

-- fewer objects have no more flights
one_less : {Y : Type 0} (found : Option Y) (few many : List Y) → length few ≤ length many → length (cons_option found few) ≤ length (cons_option found many)
one_less None few many less = less
one_less (Some y) few many less = omega (arith, less)

one_left_out : {Y : Type 0} (found : Option Y) (few many : List Y) → length few ≤ length many → length few ≤ length (cons_option found many)
one_left_out None few many less = less
one_left_out (Some y) few many less = omega (arith, less)

fewer : {X Y : Type 0} (f : X → Option Y) (p : X → Bool) (xs : List X) → length (filter_map f (filter p xs)) ≤ length (filter_map f xs)
fewer f p [] = omega arith
fewer f p (x ∷ xs) = by (p x) (fewer f p xs)
  where
    by : (keep : Bool) → length (filter_map f (filter p xs)) ≤ length (filter_map f xs) → length (filter_map f (cond keep (x ∷ filter p xs) (filter p xs))) ≤ length (filter_map f (x ∷ xs))
    by true less = one_less (f x) (filter_map f (filter p xs)) (filter_map f xs) less
    by false less = one_left_out (f x) (filter_map f (filter p xs)) (filter_map f xs) less

pub fewer_flights : (root : ℕ × Object → Bool) (s : State) → length (flights (record s { objects = live root s.objects })) ≤ length (flights s)
fewer_flights root s =
    let tickets : ℕ × Object → Option ℕ = λ entry. ticket_in entry.1.phase in
    let kept : live root s.objects ≡ filter (lives root s.objects) s.objects = live_keeps root s.objects in
    let less : length (filter_map tickets (filter (lives root s.objects) s.objects)) ≤ length (filter_map tickets s.objects) = fewer tickets (lives root s.objects) s.objects in
    let here : length (filter_map tickets (live root s.objects)) ≤ length (filter_map tickets s.objects) =
    subst (λ objects. length (filter_map tickets objects) ≤ length (filter_map tickets s.objects)) (sym kept) less in
    omega (arith, here, length-append (filter_map tickets (live root s.objects)) s.stopped, length-append (filter_map tickets s.objects) s.stopped)
