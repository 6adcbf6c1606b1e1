-- The flights after an entry of a legal history.
use Rattle.std.proofs.Common.{ℕ, ◌+◌, ◌==◌, ◌≡◌, ◌∙◌, not, Bool, true, false, List, [], ◌∷◌, ◌++◌, append-nil, Option, Some, None, length, refl, sym, ap, subst}
use Rattle.std.specs.Prelude.{cond, ◌&&◌, ◌||◌}
use Rattle.std.specs.List.{filter}
use Rattle.std.specs.Option.{option_and_then, option_map, option_map_or, unwrap_or}
use Rattle.std.proofs.lemmas.Bool.{eqb-true}
use Rattle.std.proofs.lemmas.List.Folds.{list_any-append}
use Rattle.std.proofs.lemmas.Map.Views.{any-filter_same}
use Rattle.dev_types.specs.declared.handles.Channel.{Channel}
use Rattle.kind_tables.specs.Kinds.{kind_of}
use Rattle.kind_tables.specs.declared.kinds.Kind.{Kind}
use Rattle.past_laws.proofs.FlightFacts.{flights_after, flights_have}
use Rattle.past_laws.specs.Worlds.{render_of}
use Rattle.seq_model.proofs.Afters.{after_more}
use Rattle.seq_model.proofs.Flights.{stopped_never_finishes}
use Rattle.seq_model.proofs.Handles.{IsRising, changed, changed_rises, rises, step_state, swept_next}
use Rattle.seq_model.proofs.Prefixes.{in_place}
use Rattle.seq_model.proofs.Sweeps.{place_after}
use Rattle.seq_model.specs.Histories.{History}
use Rattle.seq_model.specs.Legal.{Legal, is_flying}
use Rattle.seq_model.specs.Life.{has}
use Rattle.seq_model.specs.State.{Object, ParameterLoan, Phase, Empty, Flight, Done, State, changed_at, flights, object_at, parameter_loan, with_object}
use Rattle.seq_model.specs.Steps.{Past, after, change, discard, effect, end_flights, fresh, next_place, set_phase, step, stop, take_in, unmap_parameter}
use Rattle.seq_model.specs.declared.calls.Call.{Call}
use Rattle.seq_model.specs.declared.calls.Call.TheVariants.{NewObject, NewArray, Retain, SetParameter, UnsetParameter, UnsetAll, Commit, MapArray, UnmapArray, MapParameterArray, UnmapParameterArray, RenderFrame, DiscardFrame, MapFrame, UnmapFrame}
use Rattle.seq_model.specs.declared.calls.Entry.{Entry}
use Rattle.seq_model.specs.declared.calls.Entry.TheVariants.{Called, Finished, Left, Closed}
use Rattle.seq_model.specs.declared.calls.Reply.{Reply}
use Rattle.seq_model.specs.declared.calls.Reply.TheVariants as reply
use Rattle.device_laws.proofs.FlightFacts.{and_both, discard_flies, note_flies, or_assoc, render_flies, same_flying}
use Rattle.device_laws.specs.FlightMoves.{flies_after, stopped_after}
use Rattle.device_laws.specs.Showings.{Showing, is_flight, nothing_shown, showing_after, showing_of, with_channels}

-- which flights are stopped
made_stopped : (s : State) (kind : Option Kind) → (unwrap_or (option_map (λ kind. with_object (fresh kind None) s) kind) s).stopped ≡ s.stopped
made_stopped s None = refl
made_stopped s (Some kind) = refl

taken_stopped : (k : ℕ) (name bytes : List ℕ) (s : State) (loan : Option ParameterLoan) → (option_map_or (λ loan. take_in k name bytes loan s) loan s).stopped ≡ s.stopped
unfolding take_in
taken_stopped k name bytes s None = refl
taken_stopped k name bytes s (Some loan) = refl

pub or_false : (b : Bool) → (b || false) ≡ b
or_false true = refl
or_false false = refl

stop_has : (t : ℕ) (phase : Phase) (s : State) → has t (stop phase s).stopped ≡ (has t s.stopped || is_flight t phase)
stop_has t Empty s = sym (or_false (has t s.stopped))
stop_has t (Done u) s = sym (or_false (has t s.stopped))
stop_has t (Flight u) s = list_any-append (λ k. k == t) s.stopped (u ∷ []) ∙ ap (λ b. has t s.stopped || b) (or_false (u == t))

discard_has : (t f : ℕ) (s : State) → has t (discard f s).stopped ≡ (has t s.stopped || is_flight t (option_map_or (λ o. o.phase) (object_at s f) Empty))
unfolding discard
discard_has t f s = stop_has t (option_map_or (λ o. o.phase) (object_at s f) Empty) (changed_at f (set_phase Empty) s)

call_stops : (place actor t : ℕ) (call : Call) (r : Reply) (past : Past) → has t (effect place call r past.state).stopped ≡ stopped_after past (Called actor call r) t
unfolding effect unmap_parameter
call_stops place actor t (NewObject ty subtype) (reply.Made made) past = ap (has t) (made_stopped past.state (kind_of ty subtype))
call_stops place actor t (UnmapParameterArray k name number bytes) (reply.Made made) past =
    ap (has t) (taken_stopped k name bytes past.state (option_and_then (λ o. parameter_loan number o.parameter_loans) (object_at past.state k)))
call_stops place actor t (DiscardFrame f) reply.Done past = discard_has t f past.state
call_stops place actor t (NewArray elem count stride origin bytes) (reply.Made made) past = refl
call_stops place actor t (SetParameter k name v) reply.Done past = refl
call_stops place actor t (UnsetParameter k name) reply.Done past = refl
call_stops place actor t (UnsetAll k) reply.Done past = refl
call_stops place actor t (Commit k) reply.Done past = refl
call_stops place actor t (MapArray k) (reply.Lent number) past = refl
call_stops place actor t (UnmapArray k number bytes) reply.Done past = refl
call_stops place actor t (MapParameterArray k name elem count) (reply.Lent number) past = refl
call_stops place actor t (RenderFrame k) reply.Done past = refl
call_stops place actor t (MapFrame k channel) (reply.Mapped width height kind rows) past = refl
call_stops place actor t (UnmapFrame k number) reply.Done past = refl
call_stops place actor t (Retain k) r past = refl
call_stops place actor t _ _ past = refl

entry_stops : (place t : ℕ) (e : Entry) (past : Past) → has t (change place e past.state).stopped ≡ stopped_after past e t
unfolding change end_flights
entry_stops place t (Called actor call r) past = call_stops place actor t call r past
entry_stops place t (Finished u) past = refl
entry_stops place t (Left u) past = any-filter_same (λ v. v == t) (λ v. not (v == u)) (not (u == t)) (λ v is. (let same : v ≡ t = eqb-true v t is in turned v same)) past.state.stopped
  where
    flip : (a b : ℕ) (c : Bool) → (a == b) ≡ c → (b == a) ≡ c
    flip a b true is = ap (λ n. n == a) (sym (eqb-true a b is)) ∙ ap (λ n. a == n) (eqb-true a b is) ∙ is
    flip a b false is = by (b == a) refl
      where
        by : (c : Bool) → (b == a) ≡ c → c ≡ false
        by false other = refl
        by true other = let wrong : (a == b) ≡ true = ap (λ n. n == b) (sym (eqb-true b a other)) ∙ ap (λ n. b == n) (eqb-true b a other) ∙ other in absurd cc

    turned : (v : ℕ) → v ≡ t → not (v == u) ≡ not (u == t)
    turned v same = ap (λ v. not (v == u)) same ∙ ap not (flip u t (u == t) refl)
entry_stops place t Closed past = refl

pub stops_after : (history : History) (e : Entry) (t : ℕ) → has t (after (history ++ e ∷ [])).state.stopped ≡ stopped_after (after history) e t
stops_after history e t =
    ap (λ (past : Past). has t past.state.stopped) (after_more history e) ∙ ap (λ (s : State). has t s.stopped) (step_state (after history) e)
    ∙ ap (has t) (swept_next (step (after history) e) (changed (after history) e)).1 ∙ entry_stops (next_place (after history)) t e (after history)

-- all flights
flights_now : (history : History) (e : Entry) (k : ℕ) → has k (flights (after (history ++ e ∷ [])).state) ≡ (is_flying (changed (after history) e) k || stopped_after (after history) e k)
flights_now history e k =
    ap (λ (past : Past). has k (flights past.state)) (after_more history e) ∙ flights_after history e k
    ∙ ap (λ b. is_flying (changed (after history) e) k || b) (entry_stops (next_place (after history)) k e (after history))

later : (history : History) (e : Entry) → IsRising (changed (after history) e)
later history e = (changed_rises (after history) e (rises history)).0

-- of a call that begins and stops none
quiet_call : (history : History) (actor k : ℕ) (call : Call) (r : Reply) → ((place h : ℕ) (x : Showing) → (showing_after place (Called actor call r) h x).phase ≡ x.phase) →
    stopped_after (after history) (Called actor call r) k ≡ has k (after history).state.stopped →
    has k (flights (after (history ++ Called actor call r ∷ [])).state) ≡ has k (flights (after history).state)
quiet_call history actor k call r same stopped =
    flights_now history (Called actor call r) k
    ∙ ap (λ b. b || stopped_after (after history) (Called actor call r) k)
    (same_flying (next_place (after history)) (Called actor call r) (after history).state (rises history) (later history (Called actor call r)) (λ is. cc) (λ h x. same (next_place (after history)) h x) k)
    ∙ ap (λ b. is_flying (after history).state k || b) stopped
    ∙ sym (flights_have (after history).state k)

pub lends : (f h : ℕ) (change : List (Channel × ℕ) → List (Channel × ℕ)) (x : Showing) → (cond (f == h) (with_channels change x) x).phase ≡ x.phase
lends f h change x = by (f == h)
  where
    by : (b : Bool) → (cond b (with_channels change x) x).phase ≡ x.phase
    by true = refl
    by false = refl

note_flights : (history : History) (e : Entry) (t k : ℕ) → is_flying (changed (after history) e) k ≡ (not (t == k) && is_flying (after history).state k) →
    stopped_after (after history) e k ≡ (not (t == k) && has k (after history).state.stopped) →
    has k (flights (after (history ++ e ∷ [])).state) ≡ (not (t == k) && has k (flights (after history).state))
note_flights history e t k flying stopped =
    flights_now history e k ∙ ap (λ b. b || stopped_after (after history) e k) flying
    ∙ ap (λ b. (not (t == k) && is_flying (after history).state k) || b) stopped
    ∙ and_both (not (t == k)) (is_flying (after history).state k) (has k (after history).state.stopped)
    ∙ ap (λ b. not (t == k) && b) (sym (flights_have (after history).state k))

-- a flight that finishes was not stopped
not_stopped : (history : History) (t : ℕ) → Legal (history ++ Finished t ∷ []) → has t (after history).state.stopped ≡ false
not_stopped history t legal = by (has t (after history).state.stopped) refl
  where
    by : (b : Bool) → has t (after history).state.stopped ≡ b → b ≡ false
    by false is = refl
    by true is = absurd (stopped_never_finishes history [] t is (subst (λ h. Legal (h ++ Finished t ∷ [])) (sym (append-nil history)) legal))

finished_stops : (history : History) (t k : ℕ) → Legal (history ++ Finished t ∷ []) → has k (after history).state.stopped ≡ (not (t == k) && has k (after history).state.stopped)
finished_stops history t k legal = by (t == k) refl
  where
    by : (b : Bool) → (t == k) ≡ b → has k (after history).state.stopped ≡ (not b && has k (after history).state.stopped)
    by false is = refl
    by true is = ap (λ k. has k (after history).state.stopped) (sym (eqb-true t k is)) ∙ not_stopped history t legal

pub flights_by : (history : History) (e : Entry) (k : ℕ) → Legal (history ++ e ∷ []) →
    has k (flights (after (history ++ e ∷ [])).state) ≡ flies_after (length history + 1) e k (has k (flights (after history).state))
unfolding change effect
flights_by history (Called actor (RenderFrame f) reply.Done) k legal =
    flights_now history (render_of actor f) k
    ∙ ap (λ b. b || has k (after history).state.stopped) (render_flies history actor f k (length history + 1) (sym (place_after history)) legal)
    ∙ or_assoc (length history + 1 == k) (is_flying (after history).state k) (has k (after history).state.stopped)
    ∙ ap (λ b. (length history + 1 == k) || b) (sym (flights_have (after history).state k))
flights_by history (Called actor (DiscardFrame f) reply.Done) k legal =
    flights_now history (Called actor (DiscardFrame f) reply.Done) k
    ∙ ap (λ b. is_flying (changed (after history) (Called actor (DiscardFrame f) reply.Done)) k || (has k (after history).state.stopped || b)) (same (object_at (after history).state f))
    ∙ discard_flies (next_place (after history)) actor f k (after history).state (rises history) (later history (Called actor (DiscardFrame f) reply.Done))
    ∙ sym (flights_have (after history).state k)
  where
    same : (x : Option Object) → is_flight k (option_map_or (λ (o : Object). o.phase) x Empty) ≡ is_flight k (option_map_or showing_of x nothing_shown).phase
    same None = refl
    same (Some o) = refl
flights_by history (Called actor (MapFrame f channel) (reply.Mapped width height kind rows)) k legal =
    quiet_call history actor k (MapFrame f channel) (reply.Mapped width height kind rows) (λ place h x. lends f h (λ ms. ms ++ (channel, place) ∷ []) x) refl
flights_by history (Called actor (UnmapFrame f number) reply.Done) k legal =
    quiet_call history actor k (UnmapFrame f number) reply.Done (λ place h x. lends f h (λ ms. filter (λ m. not (m.1 == number)) ms) x) refl
flights_by history (Finished t) k legal =
    note_flights history (Finished t) t k
    (note_flies (next_place (after history)) t (Done t) (Finished t) (after history).state k (rises history) (later history (Finished t)) (λ is. cc) (λ j. refl) (λ h x. refl))
    (finished_stops history t k legal)
flights_by history (Left t) k legal =
    note_flights history (Left t) t k
    (note_flies (next_place (after history)) t Empty (Left t) (after history).state k (rises history) (later history (Left t)) (λ is. cc) (λ j. refl) (λ h x. refl)) refl
flights_by history Closed k legal =
    flights_now history Closed k ∙ closed (is_flying (after history).state k) (has k (after history).state.stopped) (sym (flights_have (after history).state k) ∙ ap (has k) (in_place history Closed [] legal).1)
    ∙ sym (ap (has k) (in_place history Closed [] legal).1)
  where
    closed : (a b : Bool) → (a || b) ≡ false → b ≡ false
    closed true b none = absurd cc
    closed false b none = none
flights_by history (Called actor call r) k legal = quiet_call history actor k call r (λ place h x. refl) refl
