-- What frames in flight show, and which frames stay there.
use Rattle.std.proofs.Common.{ℕ, ◌+◌, ◌==◌, ◌≡◌, ◌<◌, ◌∙◌, Bool, true, false, List, [], ◌∷◌, ◌++◌, Some, None, length, refl, sym, ap, arith}
use Rattle.std.specs.Prelude.{nat_lt, ◌||◌}
use Rattle.std.specs.Option.{option_map, option_map_or}
use Rattle.std.proofs.lemmas.Bool.{eq-eqb, or_left}
use Rattle.std.proofs.lemmas.Bool.Decides.{nat_tests}
use Rattle.std.proofs.lemmas.List.{length-append}
use Rattle.dev_types.specs.declared.data_types.DataType.{DataType}
use Rattle.dev_types.specs.declared.handles.Channel.{Channel}
use Rattle.dev_types.specs.declared.refusals.Refused.{Refused}
use Rattle.past_laws.proofs.FlightFacts.{flights_have}
use Rattle.past_laws.specs.Worlds.{render_of}
use Rattle.seq_model.proofs.Afters.{frame_last}
use Rattle.seq_model.proofs.Changes.{changed_here}
use Rattle.seq_model.proofs.Deaths.{left_at, rises_by}
use Rattle.seq_model.proofs.Flights.{own_tickets, ticket_in_flight}
use Rattle.seq_model.proofs.Granted.{AllNone, all_none, given}
use Rattle.seq_model.proofs.Growths.{lives_from, root_is_in}
use Rattle.seq_model.proofs.Handles.{rises}
use Rattle.seq_model.proofs.Keys.{one_that_passes}
use Rattle.seq_model.proofs.Prefixes.{in_place}
use Rattle.seq_model.proofs.SoundSteps.{is_alive}
use Rattle.seq_model.proofs.Sweeps.{place_after}
use Rattle.seq_model.specs.Deaths.{changed_by, lives_itself}
use Rattle.seq_model.specs.Histories.{History, frame_at, public}
use Rattle.seq_model.specs.Legal.{Legal, is_flying}
use Rattle.seq_model.specs.Life.{has, is_root, loan_count}
use Rattle.seq_model.specs.Refusals.{mapped_at, phase_at, refusal, refusals_of, refusals_of_map_frame}
use Rattle.seq_model.specs.State.{Object, Empty, Flight, flights, is_in_flight, object_at, ticket_in}
use Rattle.seq_model.specs.Steps.{after, change, effect, is_reached, map_channel, next_place}
use Rattle.seq_model.specs.declared.calls.Call.TheVariants.{MapFrame}
use Rattle.seq_model.specs.declared.calls.Entry.{Entry}
use Rattle.seq_model.specs.declared.calls.Entry.TheVariants.{Called}
use Rattle.seq_model.specs.declared.calls.Reply.{Reply}
use Rattle.seq_model.specs.declared.calls.Reply.TheVariants as reply
use Rattle.device_laws.proofs.FlightFacts.{flight_is}
use Rattle.device_laws.proofs.FlightSteps.{flights_by, stops_after}
use Rattle.device_laws.proofs.FlownFacts.{stopped_is_early}

-- a flight that was not stopped is shown by the frame of its render
only_flies : (a b : Bool) → (a || b) ≡ true → b ≡ false → a ≡ true
only_flies true b any none = refl
only_flies false b any none = sym none ∙ any

pub flying_phase : (history : History) (t f : ℕ) → has t (flights (after history).state) ≡ true → has t (after history).state.stopped ≡ false → frame_at history t ≡ Some f →
    phase_at (after history) f ≡ Flight t
flying_phase history t f flies going rendered =
    let flying : is_flying (after history).state t ≡ true =
    only_flies (is_flying (after history).state t) (has t (after history).state.stopped) (sym (flights_have (after history).state t) ∙ flies) going in
    let one : (h : ℕ) × (o : Object) × (object_at (after history).state h ≡ Some o) × (is_in_flight t o ≡ true) =
    one_that_passes (λ entry. is_in_flight t entry.1) 1 (after history).state.next (after history).state.objects (rises history) flying in
    let phase : one.1.phase ≡ Flight t = flight_is t one.1.phase one.3 in
    let both : Some f ≡ Some one.0 = sym rendered ∙ own_tickets history one.0 t one.1 one.2 (ticket_in_flight one.1.phase t (ap ticket_in phase)) in
    let same : f ≡ one.0 = cc in
    ap (λ h. phase_at (after history) h) same ∙ ap (λ x. option_map_or (λ (o : Object). o.phase) x Empty) one.2 ∙ phase

pub render_phase : (history : History) (actor f : ℕ) → Legal (history ++ render_of actor f ∷ []) → phase_at (after (history ++ render_of actor f ∷ [])) f ≡ Flight (length history + 1)
render_phase history actor f legal =
    flying_phase (history ++ render_of actor f ∷ []) (length history + 1) f
    (flights_by history (render_of actor f) (length history + 1) legal
    ∙ or_left (length history + 1 == length history + 1) (has (length history + 1) (flights (after history).state)) (eq-eqb (length history + 1) (length history + 1) refl))
    (stops_after history (render_of actor f) (length history + 1) ∙ early (has (length history + 1) (after history).state.stopped) refl)
    (frame_last history (render_of actor f))
  where
    early : (b : Bool) → has (length history + 1) (after history).state.stopped ≡ b → b ≡ false
    early false is = refl
    early true is = absurd (let less : length history + 1 < length history + 1 = stopped_is_early history (length history + 1) is in omega (arith, less))

-- what lives by itself stays
pub root_stays : (history : History) (e : Entry) (h : ℕ) (o : Object) → object_at (changed_by history e) h ≡ Some o → lives_itself history e (h, o) ≡ true → object_at (after (history ++ e ∷ [])).state h ≡ Some o
root_stays history e h o there root =
    left_at history e h
    ∙ lives_from (lives_itself history e) 1 (changed_by history e).next (changed_by history e).objects (rises_by history e) h o
    (root_is_in (lives_itself history e) 1 (changed_by history e).next (changed_by history e).objects (rises_by history e) 10 h o there root)

-- so does what is lent
lent_is_root : (public : ℕ → ℕ) (is_reached : ℕ → Bool) (h : ℕ) (o : Object) → nat_lt 0 (loan_count o) ≡ true → is_root public is_reached (h, o) ≡ true
unfolding is_root
lent_is_root public is_reached h o lent = by (nat_lt 0 (public h)) (is_reached h)
  where
    by : (a b : Bool) → (a || nat_lt 0 (loan_count o) || b) ≡ true
    by true b = refl
    by false b = or_left (nat_lt 0 (loan_count o)) b lent

-- a reply that hands out a channel
abbrev is_mapped_reply : Reply → Bool
is_mapped_reply (reply.Mapped _ _ _ _) = true
is_mapped_reply _ = false

-- a frame with one more mapped channel lives
lends_more : (channel : Channel) (place : ℕ) (o : Object) → nat_lt 0 (loan_count (map_channel channel place o)) ≡ true
lends_more channel place o = of (length-append o.channels ((channel, place) ∷ []))
  where
    of : length (o.channels ++ (channel, place) ∷ []) ≡ length o.channels + 1 → nat_lt 0 (loan_count (map_channel channel place o)) ≡ true
    of longer = grind (arith, nat_tests, longer)

mapped_more : (history : History) (e : Entry) (f place : ℕ) (channel : Channel) (o : Object) → object_at (after history).state f ≡ Some o →
    object_at (changed_by history e) f ≡ Some (map_channel channel place o) → mapped_at (after (history ++ e ∷ [])) f ≡ mapped_at (after history) f ++ (channel, place) ∷ []
mapped_more history e f place channel o there now =
    ap (λ x. option_map_or (λ (o : Object). o.channels) x [])
    (root_stays history e f (map_channel channel place o) now
    (lent_is_root (public (history ++ e ∷ [])) (is_reached (after (history ++ e ∷ [])).reached (changed_by history e)) f (map_channel channel place o) (lends_more channel place o)))
    ∙ sym (ap (λ x. option_map_or (λ (o : Object). o.channels) x [] ++ (channel, place) ∷ []) there)

map_changes : (history : History) (actor f : ℕ) (channel : Channel) (r : Reply) (o : Object) → is_mapped_reply r ≡ true → object_at (after history).state f ≡ Some o →
    object_at (changed_by history (Called actor (MapFrame f channel) r)) f ≡ Some (map_channel channel (next_place (after history)) o)
unfolding change effect
map_changes history actor f channel (reply.Mapped width height kind rows) o is there =
    changed_here f (map_channel channel (next_place (after history))) (after history).state ∙ ap (option_map (map_channel channel (next_place (after history)))) there
map_changes history actor f channel _ o is there = absurd cc

frame_of_map : (history : History) (actor f : ℕ) (channel : Channel) (r : Reply) → is_mapped_reply r ≡ true → Legal (history ++ Called actor (MapFrame f channel) r ∷ []) → (o : Object) × (object_at (after history).state f ≡ Some o)
unfolding refusal refusals_of
frame_of_map history actor f channel r is legal =
    let none : refusal (after history) (MapFrame f channel) ≡ None =
    (given (after history) (MapFrame f channel) r (in_place history (Called actor (MapFrame f channel) r) [] legal).0 (λ refused same. not_denied r refused is same)).0 in
    let facts : AllNone (refusals_of_map_frame (after history) f channel) = all_none (refusals_of_map_frame (after history) f channel) none in
    is_alive (after history) f facts.0
  where
    not_denied : (r : Reply) (refused : Refused) → is_mapped_reply r ≡ true → r ≡ reply.Denied refused → ⊥
    not_denied r refused is same = let wrong : true ≡ false = sym is ∙ ap is_mapped_reply same in absurd cc

map_more : (history : History) (actor f : ℕ) (channel : Channel) (r : Reply) → is_mapped_reply r ≡ true → Legal (history ++ Called actor (MapFrame f channel) r ∷ []) →
    mapped_at (after (history ++ Called actor (MapFrame f channel) r ∷ [])) f ≡ mapped_at (after history) f ++ (channel, length history + 1) ∷ []
map_more history actor f channel r is legal =
    let frame : (o : Object) × (object_at (after history).state f ≡ Some o) = frame_of_map history actor f channel r is legal in
    mapped_more history (Called actor (MapFrame f channel) r) f (next_place (after history)) channel frame.0 frame.1 (map_changes history actor f channel r frame.0 is frame.1)
    ∙ ap (λ place. mapped_at (after history) f ++ (channel, place) ∷ []) (place_after history)

pub map_lends : (history : History) (actor f : ℕ) (channel : Channel) (width height : ℕ) (t : DataType) (rows : List ℕ) → Legal (history ++ Called actor (MapFrame f channel) (reply.Mapped width height t rows) ∷ []) →
    mapped_at (after (history ++ Called actor (MapFrame f channel) (reply.Mapped width height t rows) ∷ [])) f ≡ mapped_at (after history) f ++ (channel, length history + 1) ∷ []
map_lends history actor f channel width height t rows legal = map_more history actor f channel (reply.Mapped width height t rows) refl legal
