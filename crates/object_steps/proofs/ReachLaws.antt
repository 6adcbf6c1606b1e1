-- How many flights reach an object after an entry.
use Rattle.std.proofs.Common.{ℕ, ◌+◌, ◌==◌, ◌≡◌, ◌<◌, ◌≤◌, ◌∙◌, ◌⊎◌, inl, inr, not, Bool, true, false, List, [], ◌∷◌, ◌++◌, Option, Some, None, length, refl, sym, ap, arith}
use Rattle.std.specs.Prelude.{cond, count_by, ◌||◌}
use Rattle.std.specs.BTreeMap.{is_at}
use Rattle.std.specs.List.{filter}
use Rattle.std.proofs.lemmas.Bool.{or_left, or_right}
use Rattle.std.specs.Map.{set_value}
use Rattle.std.specs.Option.{option_map, option_map_or, option_to_list, unwrap_or}
use Rattle.std.specs.Ordering.{nat_cmp}
use Rattle.dev_types.specs.Counting.{times}
use Rattle.kind_tables.specs.Walks.{visited, walk}
use Rattle.object_store.proofs.Gathered.{has_often}
use Rattle.past_laws.proofs.FlightFacts.{flights_have}
use Rattle.seq_model.specs.Histories.{History, public, rendered}
use Rattle.seq_model.specs.Legal.{Legal, is_flying}
use Rattle.seq_model.specs.Life.{has}
use Rattle.seq_model.specs.Refusals.{in_flight, refusal, refusals_of}
use Rattle.seq_model.specs.State.{Object, Phase, Empty, Flight, Done, State, changed_at, flights, object_at, scene_objects, ticket_in}
use Rattle.seq_model.specs.Steps.{Past, after, change, discard, effect, end_flights, is_reached_by, map_channel, next_place, set_phase, unmap_channel, step, stop, with_reach}
use Rattle.seq_model.specs.declared.calls.Call.{Call}
use Rattle.seq_model.specs.declared.calls.Call.TheVariants.{NewObject, NewArray, Retain, Release, RenderFrame, DiscardFrame, MapFrame, UnmapFrame}
use Rattle.seq_model.specs.declared.calls.Entry.{Entry}
use Rattle.seq_model.specs.declared.calls.Entry.TheVariants.{Called, Closed, Finished, Left}
use Rattle.seq_model.specs.declared.calls.Reply.{Reply}
use Rattle.seq_model.specs.declared.calls.Reply.TheVariants as reply
use Rattle.seq_model.proofs.Granted.{AllNone, all_none, given}
use Rattle.seq_model.proofs.Keys.{nothing_outside}
use Rattle.seq_model.proofs.Prefixes.{in_place}
use Rattle.seq_model.proofs.Reached.{carries, reach_early, reach_here, step_reached}
use Rattle.seq_model.proofs.SoundSteps.{is_alive}
use Rattle.seq_model.proofs.Sweeps.{place_after}
use Rattle.seq_model.proofs.Tickets.{tickets_are_places, tickets_stand_once}
use Rattle.object_steps.specs.Resting.{KeepsReferences, reaches}
use Rattle.seq_model.proofs.Publics.{public_moves}
use Rattle.object_steps.proofs.Counts.{none_more}
use Rattle.object_steps.proofs.Effects.{changed_flights, effect_flights}
use Rattle.object_steps.proofs.Reaches.{count_alike, count_both, end_tickets, set_count, without_count}
use Rattle.object_steps.proofs.Tickets.{tickets}

-- a frame that may be rendered is there, and is not in flight
none_apply : (past : Past) (f : ℕ) → refusal past (RenderFrame f) ≡ None → AllNone (refusals_of past (RenderFrame f))
unfolding refusal
none_apply past f none = all_none (refusals_of past (RenderFrame f)) none

grounded : (past : Past) (phase : Phase) → in_flight past phase ≡ None → ticket_in phase ≡ None
grounded past Empty none = refl
grounded past (Flight t) none = absurd cc
grounded past (Done t) none = refl

may_render : (past : Past) (f : ℕ) → refusal past (RenderFrame f) ≡ None → (o : Object) × (object_at past.state f ≡ Some o) × (ticket_in o.phase ≡ None)
unfolding refusals_of
may_render past f none =
    let apply : AllNone (refusals_of past (RenderFrame f)) = none_apply past f none in
    let alive : (o : Object) × (object_at past.state f ≡ Some o) = is_alive past f apply.0 in
    (alive.0, alive.1, grounded past alive.0.phase (sym (ap (λ x. in_flight past (option_map_or (λ (o : Object). o.phase) x Empty)) alive.1) ∙ apply.1.1.1.1.0))

-- a frame that is discarded leaves its ticket among those that were stopped
discard_counts : (q : ℕ → Bool) (f : ℕ) (s : State) → count_by q (flights (discard f s)) ≡ count_by q (flights s)
unfolding discard
discard_counts q f s = by (object_at s f) refl
  where
    none : count_by q [] ≡ 0
    none = refl

    of : (o : Object) → object_at s f ≡ Some o → (phase : Phase) → o.phase ≡ phase →
        count_by q (flights (stop phase (record s { objects = set_value (is_at (nat_cmp f)) s.objects (set_phase Empty o) }))) ≡ count_by q (flights s)
    of o found Empty is =
        let had : count_by q (option_to_list (ticket_in o.phase)) ≡ 0 = ap (λ p. count_by q (option_to_list (ticket_in p))) is in
        omega (arith, none, had, set_count q f s.objects o (set_phase Empty o) found, count_both q (tickets (set_value (is_at (nat_cmp f)) s.objects (set_phase Empty o))) s.stopped, count_both q (tickets s.objects) s.stopped)
    of o found (Done t) is =
        let had : count_by q (option_to_list (ticket_in o.phase)) ≡ 0 = ap (λ p. count_by q (option_to_list (ticket_in p))) is in
        omega (arith, none, had, set_count q f s.objects o (set_phase Empty o) found, count_both q (tickets (set_value (is_at (nat_cmp f)) s.objects (set_phase Empty o))) s.stopped, count_both q (tickets s.objects) s.stopped)
    of o found (Flight t) is =
        let had : count_by q (option_to_list (ticket_in o.phase)) ≡ count_by q (t ∷ []) = ap (λ p. count_by q (option_to_list (ticket_in p))) is in
        omega (
          arith,
          none,
          had,
          set_count q f s.objects o (set_phase Empty o) found,
          count_both q (tickets (set_value (is_at (nat_cmp f)) s.objects (set_phase Empty o))) (s.stopped ++ t ∷ []),
          count_both q s.stopped (t ∷ []),
          count_both q (tickets s.objects) s.stopped,
        )

    by : (x : Option Object) → object_at s f ≡ x →
        count_by q (flights (stop (option_map_or (λ o. o.phase) x Empty) (record s { objects = unwrap_or (option_map (λ o. set_value (is_at (nat_cmp f)) s.objects (set_phase Empty o)) x) s.objects }))) ≡ count_by q (flights s)
    by None is = refl
    by (Some o) is = of o is o.phase refl

call_counts : (q : ℕ → Bool) (place actor : ℕ) (call : Call) (r : Reply) (s : State) → rendered (Called actor call r) ≡ None → count_by q (flights (effect place call r s)) ≡ count_by q (flights s)
unfolding effect
call_counts q place actor (RenderFrame f) reply.Done s none = absurd cc
call_counts q place actor (RenderFrame f) r s none = refl
call_counts q place actor (DiscardFrame f) reply.Done s none = discard_counts q f s
call_counts q place actor (DiscardFrame f) r s none = refl
call_counts q place actor (MapFrame f channel) (reply.Mapped width height t rows) s none = ap (count_by q) (changed_flights f (map_channel channel place) s (λ o. refl))
call_counts q place actor (MapFrame f channel) r s none = refl
call_counts q place actor (UnmapFrame f number) reply.Done s none = ap (count_by q) (changed_flights f (unmap_channel number) s (λ o. refl))
call_counts q place actor (UnmapFrame f number) r s none = refl
call_counts q place actor (NewObject t subtype) r s none = ap (count_by q) (effect_flights place (NewObject t subtype) r s tt)
call_counts q place actor call r s none = ap (count_by q) (effect_flights place call r s tt)

-- public references stay where none is given out or taken back
pub references_stay : (history : History) (e : Entry) (h : ℕ) → Legal (history ++ e ∷ []) → KeepsReferences e → public (history ++ e ∷ []) h ≡ public history h
references_stay history (Called actor (NewObject t subtype) (reply.Made made)) h legal keeps = absurd keeps
references_stay history (Called actor (NewArray elem count stride origin bytes) (reply.Made made)) h legal keeps = absurd keeps
references_stay history (Called actor (Retain k) reply.Done) h legal keeps = absurd keeps
references_stay history (Called actor (Release k) reply.Done) h legal keeps = absurd keeps
references_stay history (Called actor call r) h legal keeps =
    sym (none_more (public (history ++ Called actor call r ∷ []) h) (public history h) (public_moves history (Called actor call r) h legal))
references_stay history (Finished t) h legal keeps = sym (none_more (public (history ++ Finished t ∷ []) h) (public history h) (public_moves history (Finished t) h legal))
references_stay history (Left t) h legal keeps = sym (none_more (public (history ++ Left t ∷ []) h) (public history h) (public_moves history (Left t) h legal))
references_stay history Closed h legal keeps = sym (none_more (public (history ++ Closed ∷ []) h) (public history h) (public_moves history Closed h legal))

module _ (history : History) (h : ℕ) where
  -- the reach of a render is that of its ticket
  own_reach : (f : ℕ) → is_reached_by (with_reach (length history + 1) (Some f) (after history).state (after history).reached) (length history + 1) h ≡ has h (visited (walk (scene_objects (after history).state) f))
  unfolding is_reached_by
  own_reach f =
      ap (λ x. has h (unwrap_or x []))
      (reach_here (length history + 1) f (after history).state (after history).reached
      (nothing_outside (length history + 1) 1 (length history + 1) (after history).reached (carries history).within (λ low high. omega (arith, high))))

  -- and earlier flights keep theirs
  other_reach : (f t : ℕ) → has t (flights (after history).state) ≡ true →
      is_reached_by (with_reach (length history + 1) (Some f) (after history).state (after history).reached) t h ≡ is_reached_by (after history).reached t h
  unfolding is_reached_by
  other_reach f t flies =
      let early : t < next_place (after history) = tickets_are_places history t flies in
      ap (λ x. has h (unwrap_or x []))
      (reach_early (length history + 1) t (Some f) (after history).state (after history).reached (λ same. omega (arith, early, same, place_after history)))

  render_counts : (q : ℕ → Bool) (f place : ℕ) (o : Object) → object_at (after history).state f ≡ Some o → ticket_in o.phase ≡ None →
      count_by q (flights (changed_at f (set_phase (Flight place)) (after history).state)) ≡ count_by q (flights (after history).state) + cond (q place) 1 0
  render_counts q f place o there idle =
      let s : State = (after history).state in
      let now : count_by q (flights (changed_at f (set_phase (Flight place)) s)) ≡ count_by q (tickets (set_value (is_at (nat_cmp f)) s.objects (set_phase (Flight place) o)) ++ s.stopped) =
      ap (λ x. count_by q (tickets (unwrap_or (option_map (λ o. set_value (is_at (nat_cmp f)) s.objects (set_phase (Flight place) o)) x) s.objects) ++ s.stopped)) there in
      let moved : count_by q (tickets (set_value (is_at (nat_cmp f)) s.objects (set_phase (Flight place) o))) + count_by q (option_to_list (ticket_in o.phase)) ≡ count_by q (tickets s.objects) + count_by q (place ∷ []) =
      set_count q f s.objects o (set_phase (Flight place) o) there in
      let none : count_by q (option_to_list (ticket_in o.phase)) ≡ 0 = ap (λ x. count_by q (option_to_list x)) idle in
      omega (arith, now, moved, none, one q place, count_both q (tickets (set_value (is_at (nat_cmp f)) s.objects (set_phase (Flight place) o))) s.stopped, count_both q (tickets s.objects) s.stopped)
    where
      one : (q : ℕ → Bool) (t : ℕ) → count_by q (t ∷ []) ≡ cond (q t) 1 0
      one q t = let none : 0 + cond {A = ℕ} (q t) 1 0 ≡ cond (q t) 1 0 = omega arith in none

  -- a render is reached by what its walk visits, once more
  pub reaches_of_a_render : (actor f : ℕ) → Legal (history ++ Called actor (RenderFrame f) reply.Done ∷ []) →
      reaches (step (after history) (Called actor (RenderFrame f) reply.Done)).reached (change (next_place (after history)) (Called actor (RenderFrame f) reply.Done) (after history).state) h
      ≡ reaches (after history).reached (after history).state h + cond (has h (visited (walk (scene_objects (after history).state) f))) 1 0
  unfolding change effect
  reaches_of_a_render actor f legal =
      let frame : (o : Object) × (object_at (after history).state f ≡ Some o) × (ticket_in o.phase ≡ None) =
      may_render (after history) f (given (after history) (RenderFrame f) reply.Done (in_place history (Called actor (RenderFrame f) reply.Done) [] legal).0 (λ refused is. cc)).0 in
      let reached : List (ℕ × List ℕ) = with_reach (length history + 1) (Some f) (after history).state (after history).reached in
      let carried : reaches (step (after history) (Called actor (RenderFrame f) reply.Done)).reached (changed_at f (set_phase (Flight (next_place (after history)))) (after history).state) h
      ≡ reaches reached (changed_at f (set_phase (Flight (length history + 1))) (after history).state) h =
      ap (λ r. reaches r (changed_at f (set_phase (Flight (next_place (after history)))) (after history).state) h) (step_reached history (Called actor (RenderFrame f) reply.Done))
      ∙ ap (λ n. reaches reached (changed_at f (set_phase (Flight n)) (after history).state) h) (place_after history) in
      let counts : reaches reached (changed_at f (set_phase (Flight (length history + 1))) (after history).state) h
      ≡ reaches reached (after history).state h + cond (is_reached_by reached (length history + 1) h) 1 0 =
      render_counts (λ t. is_reached_by reached t h) f (length history + 1) frame.0 frame.1 frame.2 in
      let old : reaches reached (after history).state h ≡ reaches (after history).reached (after history).state h =
      count_alike (λ t. is_reached_by reached t h) (λ t. is_reached_by (after history).reached t h) (flights (after history).state) (λ t flies. other_reach f t flies) in
      let own : cond {A = ℕ} (is_reached_by reached (length history + 1) h) 1 0 ≡ cond (has h (visited (walk (scene_objects (after history).state) f))) 1 0 = ap (λ t. cond {A = ℕ} t 1 0) (own_reach f) in
      omega (arith, carried, counts, old, own)

  unreached : (e : Entry) → rendered e ≡ None → (step (after history) e).reached ≡ (after history).reached
  unfolding with_reach
  unreached e none = step_reached history e ∙ ap (λ x. with_reach (length history + 1) x (after history).state (after history).reached) none

  -- a call that renders nothing leaves who is reached
  pub reaches_of_a_call : (actor : ℕ) (call : Call) (r : Reply) → rendered (Called actor call r) ≡ None →
      reaches (step (after history) (Called actor call r)).reached (change (next_place (after history)) (Called actor call r) (after history).state) h ≡ reaches (after history).reached (after history).state h
  unfolding change
  reaches_of_a_call actor call r none =
      ap (λ reached. reaches reached (effect (next_place (after history)) call r (after history).state) h) (unreached (Called actor call r) none)
      ∙ call_counts (λ t. is_reached_by (after history).reached t h) (next_place (after history)) actor call r (after history).state none

  -- who flies has its ticket once among the frames
  one_flies : (t : ℕ) → is_flying (after history).state t ≡ true → (times t (tickets (after history).state.objects) ≡ 1) × (times t (after history).state.stopped ≡ 0)
  one_flies t flies =
      let most : times t (flights (after history).state) ≤ 1 = tickets_stand_once history t in
      let both : times t (flights (after history).state) ≡ times t (tickets (after history).state.objects) + times t (after history).state.stopped = count_both (λ k. k == t) (tickets (after history).state.objects) (after history).state.stopped in
      let some : 1 ≤ times t (tickets (after history).state.objects) = has_often t (tickets (after history).state.objects) (frames_have t flies) in
      (omega (arith, most, both, some), omega (arith, most, both, some))
    where
      frames_have : (t : ℕ) → is_flying (after history).state t ≡ true → has t (tickets (after history).state.objects) ≡ true
      frames_have t flies =
          sym (ap (has t) (no_stops (tickets (after history).state.objects))) ∙ flights_have (record (after history).state { stopped = [] }) t ∙ no_more (is_flying (after history).state t) ∙ flies
        where
          no_more : (b : Bool) → (b || false) ≡ b
          no_more true = refl
          no_more false = refl

          no_stops : (us : List ℕ) → us ++ [] ≡ us
          no_stops [] = refl
          no_stops (u ∷ us) = ap (λ rest. u ∷ rest) (no_stops us)

  -- a flight that ends reaches nothing any more
  ended_counts : (q : ℕ → Bool) (t : ℕ) (phase : Phase) → ticket_in phase ≡ None →
      count_by q (tickets (end_flights t phase (after history).state).objects) + cond (q t) (times t (tickets (after history).state.objects)) 0 ≡ count_by q (tickets (after history).state.objects)
  unfolding end_flights
  ended_counts q t phase ends =
      ap (λ us. count_by q us + cond (q t) (times t (tickets (after history).state.objects)) 0) (end_tickets t phase ends (after history).state.objects) ∙ without_count q t (tickets (after history).state.objects)

  pub reaches_of_a_finish : (t : ℕ) → Legal (history ++ Finished t ∷ []) →
      reaches (step (after history) (Finished t)).reached (change (next_place (after history)) (Finished t) (after history).state) h + cond (is_reached_by (after history).reached t h) 1 0
      ≡ reaches (after history).reached (after history).state h
  unfolding change end_flights
  reaches_of_a_finish t legal =
      let flies : (times t (tickets (after history).state.objects) ≡ 1) × (times t (after history).state.stopped ≡ 0) = one_flies t (in_place history (Finished t) [] legal) in
      let q : ℕ → Bool = λ u. is_reached_by (after history).reached u h in
      let carried : reaches (step (after history) (Finished t)).reached (end_flights t (Done t) (after history).state) h ≡ count_by q (flights (end_flights t (Done t) (after history).state)) =
      ap (λ r. reaches r (end_flights t (Done t) (after history).state) h) (unreached (Finished t) refl) in
      let ends : count_by q (tickets (end_flights t (Done t) (after history).state).objects) + cond (q t) (times t (tickets (after history).state.objects)) 0 ≡ count_by q (tickets (after history).state.objects) =
      ended_counts q t (Done t) refl in
      let once : cond (q t) (times t (tickets (after history).state.objects)) 0 ≡ cond (q t) 1 0 = ap (λ n. cond (q t) n 0) flies.0 in
      omega (arith, carried, ends, once, count_both q (tickets (end_flights t (Done t) (after history).state).objects) (after history).state.stopped, count_both q (tickets (after history).state.objects) (after history).state.stopped)

  pub reaches_of_a_leave : (t : ℕ) → Legal (history ++ Left t ∷ []) →
      reaches (step (after history) (Left t)).reached (change (next_place (after history)) (Left t) (after history).state) h + cond (is_reached_by (after history).reached t h) 1 0
      ≡ reaches (after history).reached (after history).state h
  unfolding change end_flights
  reaches_of_a_leave t legal =
      let q : ℕ → Bool = λ u. is_reached_by (after history).reached u h in
      let s : State = (after history).state in
      let left : State = record (end_flights t Empty s) { stopped = filter (λ u. not (u == t)) s.stopped } in
      let carried : reaches (step (after history) (Left t)).reached left h ≡ count_by q (flights left) = ap (λ r. reaches r left h) (unreached (Left t) refl) in
      let ends : count_by q (tickets (end_flights t Empty s).objects) + cond (q t) (times t (tickets s.objects)) 0 ≡ count_by q (tickets s.objects) = ended_counts q t Empty refl in
      let stops : count_by q (filter (λ u. not (u == t)) s.stopped) + cond (q t) (times t s.stopped) 0 ≡ count_by q s.stopped = without_count q t s.stopped in
      let most : times t (flights s) ≤ 1 = tickets_stand_once history t in
      let both : times t (flights s) ≡ times t (tickets s.objects) + times t s.stopped = count_both (λ k. k == t) (tickets s.objects) s.stopped in
      let some : 1 ≤ times t (flights s) = has_often t (flights s) (is_among (in_place history (Left t) [] legal)) in
      let once : cond (q t) (times t (tickets s.objects)) 0 + cond (q t) (times t s.stopped) 0 ≡ cond (q t) 1 0 = sums (q t) (times t (tickets s.objects)) (times t s.stopped) (omega (arith, most, both, some)) in
      omega (arith, carried, ends, stops, once, count_both q (tickets left.objects) left.stopped, count_both q (tickets s.objects) s.stopped)
    where
      sums : (b : Bool) (m n : ℕ) → m + n ≡ 1 → cond b m 0 + cond b n 0 ≡ cond b 1 0
      sums true m n is = is
      sums false m n is = refl

      is_among : (has t (after history).state.stopped ≡ true) ⊎ ((is_flying (after history).state t ≡ true) × (true ≡ true)) → has t (flights (after history).state) ≡ true
      is_among (inl stopped) = flights_have (after history).state t ∙ or_right (is_flying (after history).state t) (has t (after history).state.stopped) stopped
      is_among (inr flies) = flights_have (after history).state t ∙ or_left (is_flying (after history).state t) (has t (after history).state.stopped) flies.0
