-- Tickets: each belongs to one frame, and one that was stopped or discarded shows nowhere any more.
use Rattle.std.proofs.Common.{ℕ, ◌+◌, ◌==◌, ◌≡◌, ◌<◌, ◌≤◌, ◌∙◌, ◌⊎◌, inl, inr, Bool, true, false, not, List, [], ◌∷◌, ◌++◌, Option, Some, None, refl, sym, ap, subst, length, arith, length-append}
use Rattle.std.specs.Prelude.{cond, ◌||◌}
use Rattle.std.specs.List.{filter}
use Rattle.std.specs.Option.{option_map, option_map_or}
use Rattle.std.proofs.lemmas.Bool.{eqb-true, or_cases}
use Rattle.std.proofs.lemmas.List.Folds.{list_any-append}
use Rattle.seq_model.proofs.Afters.{after_both, after_more, frame_early, frame_last, frame_within, grows_by, keeps_by}
use Rattle.seq_model.proofs.Came.{stop_objects, swept_was, ComesFrom, IsNew, Was, Kept, Emptied, Started, Ended, step_back}
use Rattle.seq_model.proofs.Changes.{Change, Quiet, Making, Rendering, Discarding, Finishing, Leaving, Closing, changed_here, entry_changes}
use Rattle.seq_model.proofs.Handles.{IsRising, changed_rises, changed, rises, step_rises, step_state, swept_next}
use Rattle.seq_model.proofs.Keys.{at, one_that_passes}
use Rattle.seq_model.proofs.Prefixes.{in_place}
use Rattle.seq_model.proofs.Sweeps.{place_after}
use Rattle.seq_model.specs.Histories.{History, frame_at, rendered}
use Rattle.seq_model.specs.Legal.{Legal, is_flying}
use Rattle.seq_model.specs.Life.{has}
use Rattle.seq_model.specs.State.{Object, Phase, Empty, Flight, Done, State, changed_at, is_in_flight, object_at, ticket_in}
use Rattle.seq_model.specs.Steps.{Past, after, change, discard, effect, end_flights, next_place, set_phase, step, stop}
use Rattle.seq_model.specs.Tickets.{ticket_of}
use Rattle.seq_model.specs.declared.calls.Call.TheVariants.{DiscardFrame}
use Rattle.seq_model.specs.declared.calls.Reply.TheVariants as reply
use Rattle.seq_model.specs.declared.calls.Entry.{Entry}
use Rattle.seq_model.specs.declared.calls.Entry.TheVariants.{Called, Finished}

-- what an object shows after an entry it showed before, unless it was rendered just now
pub showed : (place : ℕ) (e : Entry) (s : State) (k u : ℕ) (o : Object) → ComesFrom place e s k o → ticket_of o.phase ≡ Some u →
    ((p : Object) × (object_at s k ≡ Some p) × (ticket_of p.phase ≡ Some u)) ⊎ ((rendered e ≡ Some k) × (u ≡ place))
showed place e s k u o (IsNew new phase) shows = let none : None ≡ Some u = sym (ap ticket_of phase) ∙ shows in absurd cc
showed place e s k u o (Was p there kind takes (Kept phase)) shows = inl (p, there, sym (ap ticket_of phase) ∙ shows)
showed place e s k u o (Was p there kind takes (Emptied phase)) shows = let none : None ≡ Some u = sym (ap ticket_of phase) ∙ shows in absurd cc
showed place e s k u o (Was p there kind takes (Started is phase)) shows =
    let ticket : Some place ≡ Some u = sym (ap ticket_of phase) ∙ shows in
    let same : u ≡ place = cc in
    inr (is, same)
showed place e s k u o (Was p there kind takes (Ended v entry was phase)) shows =
    let ticket : Some v ≡ Some u = sym (ap ticket_of phase) ∙ shows in
    inl (p, there, ap ticket_of was ∙ ticket)

-- a ticket is the place of the render of the frame that shows it
abbrev pub IsOwn : History → State → Type 0
IsOwn history s = (k u : ℕ) (o : Object) → object_at s k ≡ Some o → ticket_of o.phase ≡ Some u → frame_at history u ≡ Some k

own_first : IsOwn [] (after []).state
unfolding after
own_first k u o found shows = absurd cc

pub own_tickets : (history : History) → IsOwn history (after history).state
own_tickets history = grows_by (λ history. IsOwn history (after history).state) own_first more history
  where
    more : (history : History) (e : Entry) → IsOwn history (after history).state → IsOwn (history ++ e ∷ []) (after (history ++ e ∷ [])).state
    more history e now =
        subst (λ (past : Past). IsOwn (history ++ e ∷ []) past.state) (sym (after_more history e))
        (λ k u o found shows. by k u (showed (next_place (after history)) e (after history).state k u o (step_back (after history) e k o (rises history) found) shows))
      where
        by : (k u : ℕ) → ((p : Object) × (object_at (after history).state k ≡ Some p) × (ticket_of p.phase ≡ Some u)) ⊎ ((rendered e ≡ Some k) × (u ≡ next_place (after history))) →
            frame_at (history ++ e ∷ []) u ≡ Some k
        by k u (inl old) =
            let was : frame_at history u ≡ Some k = now k u old.0 old.1 old.2 in
            let inside : (0 < u) × (u ≤ length history) = frame_within history u k was in
            frame_early history (e ∷ []) u inside.1 ∙ was
        by k u (inr new) = ap (frame_at (history ++ e ∷ [])) (new.1 ∙ place_after history) ∙ frame_last history e ∙ new.0

-- a ticket of the past that no frame shows
pub record IsUnseen (u : ℕ) (past : Past) : Type 0 where
  pub early : u < next_place past
  pub unseen : (k : ℕ) (o : Object) → object_at past.state k ≡ Some o → ticket_of o.phase ≡ Some u → ⊥

later_place : (past : Past) (e : Entry) → next_place (step past e) ≡ next_place past + 1
unfolding step
later_place past e = ap (λ n. n + 1) (length-append past.seen (e ∷ []))

pub stays_unseen : (past : Past) (e : Entry) (u : ℕ) → IsRising past.state → IsUnseen u past → IsUnseen u (step past e)
stays_unseen past e u rising now = record {
  early = omega (arith, now.early, later_place past e);
  unseen = λ k o found shows. by k (showed (next_place past) e past.state k u o (step_back past e k o rising found) shows);
}
  where
    by : (k : ℕ) → ((p : Object) × (object_at past.state k ≡ Some p) × (ticket_of p.phase ≡ Some u)) ⊎ ((rendered e ≡ Some k) × (u ≡ next_place past)) → ⊥
    by k (inl old) = now.unseen k old.0 old.1 old.2
    by k (inr new) = omega (arith, now.early, new.1)

pub unseen_later : (history further : History) (u : ℕ) → IsUnseen u (after history) → IsUnseen u (after (history ++ further))
unseen_later history further u now =
    subst (IsUnseen u) (sym (after_both history further))
    (keeps_by (λ past. IsRising past.state × IsUnseen u past)
    (λ past e now. let one : IsRising (step past e).state × (past.state.next ≤ (step past e).state.next) = step_rises past e now.0 in (one.0, stays_unseen past e u now.0 now.1))
    (after history) further (rises history, now)).1

-- how the stopped tickets change
has_last : (u v : ℕ) (us : List ℕ) → has u (us ++ v ∷ []) ≡ true → (has u us ≡ true) ⊎ (v ≡ u)
has_last u v us is = by (or_cases (has u us) (has u (v ∷ [])) (sym (list_any-append (λ k. k == u) us (v ∷ [])) ∙ is))
  where
    by : (has u us ≡ true) ⊎ (((v == u) || false) ≡ true) → (has u us ≡ true) ⊎ (v ≡ u)
    by (inl old) = inl old
    by (inr new) = of (or_cases (v == u) false new)
      where
        of : ((v == u) ≡ true) ⊎ (false ≡ true) → (has u us ≡ true) ⊎ (v ≡ u)
        of (inl same) = inr (eqb-true v u same)
        of (inr none) = absurd cc

has_of_filter : (u : ℕ) (p : ℕ → Bool) (us : List ℕ) → has u (filter p us) ≡ true → has u us ≡ true
has_of_filter u p [] is = is
has_of_filter u p (v ∷ us) is = by (p v) (v == u) refl is (λ later. has_of_filter u p us later)
  where
    by : (t same : Bool) → (v == u) ≡ same → has u (cond t (v ∷ filter p us) (filter p us)) ≡ true → (has u (filter p us) ≡ true → has u us ≡ true) → (same || has u us) ≡ true
    by t true test is rest = refl
    by true false test is rest = rest (rw test at is)
    by false false test is rest = rest is

-- a ticket that is stopped was stopped before, or is stopped with its frame now
stopped_by : (phase : Phase) (s : State) (u : ℕ) → has u (stop phase s).stopped ≡ true → (has u s.stopped ≡ true) ⊎ (phase ≡ Flight u)
stopped_by Empty s u is = inl is
stopped_by (Done t) s u is = inl is
stopped_by (Flight t) s u is = by (has_last u t s.stopped is)
  where
    by : (has u s.stopped ≡ true) ⊎ (t ≡ u) → (has u s.stopped ≡ true) ⊎ (Flight t ≡ Flight u)
    by (inl old) = inl old
    by (inr same) = inr (ap Flight same)

-- the frame of a discard, and what it showed
abbrev IsDiscarded : State → State → ℕ → Type 0
IsDiscarded s t u = (h : ℕ) × (p : Object) × (object_at s h ≡ Some p) × (p.phase ≡ Flight u) × ((o : Object) → object_at t h ≡ Some o → o.phase ≡ Empty)

discarded_stops : (h u : ℕ) (s : State) → has u (discard h s).stopped ≡ true → (has u s.stopped ≡ true) ⊎ IsDiscarded s (discard h s) u
unfolding discard
discarded_stops h u s is = by (object_at s h) refl (stopped_by _ (changed_at h (set_phase Empty) s) u is)
  where
    empties : (x : Option Object) (o : Object) → object_at s h ≡ x → at h (stop (option_map_or (λ o. o.phase) (object_at s h) Empty) (changed_at h (set_phase Empty) s)).objects ≡ Some o → o.phase ≡ Empty
    empties x o was found = of x (sym (ap (option_map (set_phase Empty)) was) ∙ sym (changed_here h (set_phase Empty) s) ∙ ap (at h) (sym (stop_objects (option_map_or (λ o. o.phase) (object_at s h) Empty) (changed_at h (set_phase Empty) s))) ∙ found)
      where
        of : (x : Option Object) → option_map (set_phase Empty) x ≡ Some o → o.phase ≡ Empty
        of None is = absurd cc
        of (Some p) is = let same : set_phase Empty p ≡ o = cc in ap (λ (x : Object). x.phase) (sym same)

    by : (x : Option Object) → object_at s h ≡ x → (has u s.stopped ≡ true) ⊎ (option_map_or (λ o. o.phase) (object_at s h) Empty ≡ Flight u) →
        (has u s.stopped ≡ true) ⊎ IsDiscarded s (stop (option_map_or (λ o. o.phase) (object_at s h) Empty) (changed_at h (set_phase Empty) s)) u
    by x was (inl old) = inl old
    by None was (inr phase) = let none : Empty ≡ Flight u = sym (ap (λ x. option_map_or (λ o. o.phase) x Empty) was) ∙ phase in absurd cc
    by (Some p) was (inr phase) =
        let flew : p.phase ≡ Flight u = sym (ap (λ x. option_map_or (λ o. o.phase) x Empty) was) ∙ phase in
        inr (h, p, was, flew, λ o found. empties (Some p) o was found)

ends_keep_stopped : (v : ℕ) (phase : Phase) (s : State) → (end_flights v phase s).stopped ≡ s.stopped
unfolding end_flights
ends_keep_stopped v phase s = refl

pub stops : (place : ℕ) (e : Entry) (s t : State) → Change place e s t → (u : ℕ) → has u t.stopped ≡ true → (has u s.stopped ≡ true) ⊎ IsDiscarded s t u
stops place e s t (Quiet shows takes quiet) u is = inl (ap (has u) (sym quiet.stopped) ∙ is)
stops place e s t (Making o v shows takes phase quiet is) u stopped = inl (ap (has u) (sym quiet.stopped) ∙ ap (λ (t : State). has u t.stopped) (sym is) ∙ stopped)
stops place e s t (Rendering h shows takes is) u stopped = inl (ap (λ (t : State). has u t.stopped) (sym is) ∙ stopped)
stops place e s t (Discarding h shows takes is) u stopped =
    subst (λ t. (has u s.stopped ≡ true) ⊎ IsDiscarded s t u) (sym is) (discarded_stops h u s (ap (λ (t : State). has u t.stopped) (sym is) ∙ stopped))
stops place e s t (Finishing v entry is) u stopped = inl (ap (has u) (sym (ends_keep_stopped v (Done v) s)) ∙ ap (λ (t : State). has u t.stopped) (sym is) ∙ stopped)
stops place e s t (Leaving v entry is) u stopped = inl (has_of_filter u (λ w. not (w == v)) s.stopped (ap (λ (t : State). has u t.stopped) (sym is) ∙ stopped))
stops place e s t (Closing entry is) u stopped = inl (ap (λ (t : State). has u t.stopped) (sym is) ∙ stopped)

-- an object that is left by the sweep stood there after the change
still_there : (past : Past) (e : Entry) (k : ℕ) (o : Object) → IsRising past.state → object_at (step past e).state k ≡ Some o → object_at (changed past e) k ≡ Some o
still_there past e k o rising found =
    (swept_was (step past e) (changed past e) k o (changed_rises past e rising).0
    (ap (λ s. object_at s k) (sym (step_state past e)) ∙ found)).0

discards : (actor h : ℕ) (past : Past) → changed past (Called actor (DiscardFrame h) reply.Done) ≡ discard h past.state
unfolding change effect
discards actor h past = refl

discard_empties : (h : ℕ) (s : State) (o : Object) → object_at (discard h s) h ≡ Some o → o.phase ≡ Empty
unfolding discard
discard_empties h s o found =
    of (object_at s h) (sym (changed_here h (set_phase Empty) s) ∙ ap (at h) (sym (stop_objects (option_map_or (λ o. o.phase) (object_at s h) Empty) (changed_at h (set_phase Empty) s))) ∙ found)
  where
    of : (x : Option Object) → option_map (set_phase Empty) x ≡ Some o → o.phase ≡ Empty
    of None is = absurd cc
    of (Some p) is = let same : set_phase Empty p ≡ o = cc in ap (λ (x : Object). x.phase) (sym same)

-- a ticket among those of the frames in flight
pub ticket_in_flight : (phase : Phase) (u : ℕ) → ticket_in phase ≡ Some u → ticket_of phase ≡ Some u
ticket_in_flight Empty u is = absurd cc
ticket_in_flight (Flight t) u is = is
ticket_in_flight (Done t) u is = absurd cc

flies_with : (u : ℕ) (phase : Phase) → option_map_or (λ t. t == u) (ticket_in phase) false ≡ true → ticket_in phase ≡ Some u
flies_with u Empty is = absurd cc
flies_with u (Flight t) is = ap Some (eqb-true t u is)
flies_with u (Done t) is = absurd cc

flying_frame : (u : ℕ) (s : State) → IsRising s → is_flying s u ≡ true → (k : ℕ) × (o : Object) × (object_at s k ≡ Some o) × (ticket_in o.phase ≡ Some u)
flying_frame u s rising flies =
    let one : (k : ℕ) × (o : Object) × (object_at s k ≡ Some o) × (is_in_flight u o ≡ true) = one_that_passes (λ entry. is_in_flight u entry.1) 1 s.next s.objects rising flies in
    (one.0, one.1, one.2, flies_with u one.1.phase one.3)

stopped_first : (u : ℕ) → has u (after []).state.stopped ≡ true → IsUnseen u (after [])
unfolding after
stopped_first u is = absurd cc

-- what was stopped shows nowhere
pub stopped_is_unseen : (history : History) (u : ℕ) → has u (after history).state.stopped ≡ true → IsUnseen u (after history)
stopped_is_unseen history = grows_by (λ history. (u : ℕ) → has u (after history).state.stopped ≡ true → IsUnseen u (after history)) stopped_first more history
  where
    more : (history : History) (e : Entry) → ((u : ℕ) → has u (after history).state.stopped ≡ true → IsUnseen u (after history)) →
        (u : ℕ) → has u (after (history ++ e ∷ [])).state.stopped ≡ true → IsUnseen u (after (history ++ e ∷ []))
    more history e now u is =
        subst (IsUnseen u) (sym (after_more history e))
        (by (stops (next_place (after history)) e (after history).state (changed (after history) e) (entry_changes (next_place (after history)) e (after history).state) u
        (sym (ap (has u) (swept_next (step (after history) e) (changed (after history) e)).1)
        ∙ sym (ap (λ (s : State). has u s.stopped) (step_state (after history) e)) ∙ sym (ap (λ (past : Past). has u past.state.stopped) (after_more history e)) ∙ is)))
      where
        by : (has u (after history).state.stopped ≡ true) ⊎ IsDiscarded (after history).state (changed (after history) e) u → IsUnseen u (step (after history) e)
        by (inl old) = stays_unseen (after history) e u (rises history) (now u old)
        by (inr (h, p, was, flew, empties)) = record { early = omega (arith, inside.1, place_after history, later_place (after history) e); unseen = unseen }
          where
            ticket : ticket_of p.phase ≡ Some u
            ticket = ap ticket_of flew

            inside : (0 < u) × (u ≤ length history)
            inside = frame_within history u h (own_tickets history h u p was ticket)

            here : (k : ℕ) (o : Object) → object_at (step (after history) e).state k ≡ Some o → ticket_of o.phase ≡ Some u → k ≡ h → ⊥
            here k o found shows same =
                let there : object_at (changed (after history) e) h ≡ Some o = ap (object_at (changed (after history) e)) (sym same) ∙ still_there (after history) e k o (rises history) found in
                let none : None ≡ Some u = sym (ap ticket_of (empties o there)) ∙ shows in absurd cc

            unseen : (k : ℕ) (o : Object) → object_at (step (after history) e).state k ≡ Some o → ticket_of o.phase ≡ Some u → ⊥
            unseen k o found shows = of (showed (next_place (after history)) e (after history).state k u o (step_back (after history) e k o (rises history) found) shows)
              where
                of : ((p : Object) × (object_at (after history).state k ≡ Some p) × (ticket_of p.phase ≡ Some u)) ⊎ ((rendered e ≡ Some k) × (u ≡ next_place (after history))) → ⊥
                of (inl (q, there, showed)) =
                    let frames : Some k ≡ Some h = sym (own_tickets history k u q there showed) ∙ own_tickets history h u p was ticket in
                    let same : k ≡ h = cc in
                    here k o found shows same
                of (inr new) = omega (arith, inside.1, new.1, place_after history)

-- a flight that was stopped never ends in a picture
pub stopped_never_finishes : (history further : History) (u : ℕ) → has u (after history).state.stopped ≡ true → Legal ((history ++ further) ++ Finished u ∷ []) → ⊥
stopped_never_finishes history further u stopped legal =
    let flies : is_flying (after (history ++ further)).state u ≡ true = in_place (history ++ further) (Finished u) [] legal in
    let one : (k : ℕ) × (o : Object) × (object_at (after (history ++ further)).state k ≡ Some o) × (ticket_in o.phase ≡ Some u) =
    flying_frame u (after (history ++ further)).state (rises (history ++ further)) flies in
    (unseen_later history further u (stopped_is_unseen history u stopped)).unseen one.0 one.1 one.2 (ticket_in_flight one.1.phase u one.3)

-- what was discarded is not shown any more
pub discarded_is_unseen : (history : History) (actor h u : ℕ) (o : Object) → object_at (after history).state h ≡ Some o → ticket_of o.phase ≡ Some u →
    IsUnseen u (after (history ++ Called actor (DiscardFrame h) reply.Done ∷ []))
discarded_is_unseen history actor h u o was ticket =
    subst (IsUnseen u) (sym (after_more history (Called actor (DiscardFrame h) reply.Done)))
    (record { early = omega (arith, inside.1, place_after history, later_place (after history) (Called actor (DiscardFrame h) reply.Done)); unseen = unseen })
  where
    inside : (0 < u) × (u ≤ length history)
    inside = frame_within history u h (own_tickets history h u o was ticket)

    unseen : (k : ℕ) (p : Object) → object_at (step (after history) (Called actor (DiscardFrame h) reply.Done)).state k ≡ Some p → ticket_of p.phase ≡ Some u → ⊥
    unseen k p found shows =
        of (showed (next_place (after history)) (Called actor (DiscardFrame h) reply.Done) (after history).state k u p (step_back (after history) (Called actor (DiscardFrame h) reply.Done) k p (rises history) found) shows)
      where
        of : ((q : Object) × (object_at (after history).state k ≡ Some q) × (ticket_of q.phase ≡ Some u)) ⊎ ((rendered (Called actor (DiscardFrame h) reply.Done) ≡ Some k) × (u ≡ next_place (after history))) → ⊥
        of (inl (q, there, showed)) =
            let frames : Some k ≡ Some h = sym (own_tickets history k u q there showed) ∙ own_tickets history h u o was ticket in
            let same : k ≡ h = cc in
            let kept : object_at (changed (after history) (Called actor (DiscardFrame h) reply.Done)) h ≡ Some p =
            ap (object_at (changed (after history) (Called actor (DiscardFrame h) reply.Done))) (sym same) ∙ still_there (after history) (Called actor (DiscardFrame h) reply.Done) k p (rises history) found in
            let none : None ≡ Some u = sym (ap ticket_of (discard_empties h (after history).state p (ap (λ s. object_at s h) (sym (discards actor h (after history))) ∙ kept))) ∙ shows in absurd cc
        of (inr new) = omega (arith, inside.1, new.1, place_after history)

pub discarded_is_never_mapped : (history further : History) (actor h u : ℕ) (o : Object) → object_at (after history).state h ≡ Some o → ticket_of o.phase ≡ Some u →
    (k : ℕ) (p : Object) → object_at (after ((history ++ Called actor (DiscardFrame h) reply.Done ∷ []) ++ further)).state k ≡ Some p → ticket_of p.phase ≡ Some u → ⊥
discarded_is_never_mapped history further actor h u o was ticket k p found shows =
    (unseen_later (history ++ Called actor (DiscardFrame h) reply.Done ∷ []) further u (discarded_is_unseen history actor h u o was ticket)).unseen k p found shows
