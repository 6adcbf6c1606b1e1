-- Which flights there are after an entry.
use Rattle.std.proofs.Common.{ℕ, ◌==◌, ◌≡◌, ◌∙◌, ◌⊎◌, inl, inr, not, Bool, true, false, List, [], ◌∷◌, ◌++◌, Option, Some, None, refl, sym, ap, subst}
use Rattle.std.specs.Prelude.{cond, ◌&&◌, ◌||◌, IsSomeAnd}
use Rattle.std.specs.Option.{is_some, option_map, option_map_or}
use Rattle.std.proofs.lemmas.Bool.{eq-eqb, eqb-true, or_cases, or_left, or_right}
use Rattle.dev_types.specs.declared.handles.Channel.{Channel}
use Rattle.past_laws.specs.Worlds.{render_of}
use Rattle.seq_model.proofs.Came.{stop_objects}
use Rattle.seq_model.proofs.Changes.{AreLike, Change, Closing, Discarding, Finishing, Leaving, Making, Quiet, Rendering, entry_changes}
use Rattle.seq_model.proofs.Granted.{AllNone, all_none, given}
use Rattle.seq_model.proofs.Handles.{IsRising, changed, changed_rises, rises}
use Rattle.seq_model.proofs.Keys.{at, at_map, one_that_passes, some_passes}
use Rattle.seq_model.proofs.Prefixes.{in_place}
use Rattle.seq_model.proofs.Sound.{changed_keeps}
use Rattle.seq_model.proofs.SoundHistories.{there_with}
use Rattle.seq_model.proofs.SoundSteps.{is_alive}
use Rattle.seq_model.specs.Histories.{History}
use Rattle.seq_model.specs.Legal.{Legal, is_flying}
use Rattle.seq_model.specs.Life.{has}
use Rattle.seq_model.specs.Refusals.{in_flight, refusal, refusals_of, refusals_of_render}
use Rattle.seq_model.specs.State.{Object, Phase, Empty, Flight, Done, State, changed_at, is_in_flight, object_at}
use Rattle.seq_model.specs.Steps.{Past, after, change, discard, end_flight, end_flights, next_place, set_phase}
use Rattle.seq_model.specs.declared.calls.Call.TheVariants.{RenderFrame, DiscardFrame}
use Rattle.seq_model.specs.declared.calls.Entry.{Entry}
use Rattle.seq_model.specs.declared.calls.Entry.TheVariants.{Called, Closed}
use Rattle.seq_model.specs.declared.calls.Reply.TheVariants as reply
use Rattle.device_laws.proofs.ShowingFacts.{entry_makes}
use Rattle.device_laws.specs.Showings.{Showing, flight_ends, is_flight, nothing_shown, showing_after, showing_at, showing_of, with_phase}

-- two tests that pass alike
same_truth : (a b : Bool) → (a ≡ true → b ≡ true) → (b ≡ true → a ≡ true) → a ≡ b
same_truth true b there back = sym (there refl)
same_truth false true there back = back refl
same_truth false false there back = refl

-- no entry but the close takes an object away, before those that do not live are gone
like_there : (x y : Option Object) → is_some x ≡ true → AreLike x y → is_some y ≡ true
like_there None y is like = absurd cc
like_there (Some o) None is like = absurd like
like_there (Some o) (Some p) is like = refl

some_there : (x : Option Object) (P : Object → Type 0) → IsSomeAnd x P → is_some x ≡ true
some_there None P is = absurd is
some_there (Some o) P is = refl

phase_there : (h f : ℕ) (phase : Phase) (s : State) (o : Object) → object_at s h ≡ Some o → is_some (object_at (changed_at f (set_phase phase) s) h) ≡ true
phase_there h f phase s o there = some_there (object_at (changed_at f (set_phase phase) s) h) (λ p. p.kind ≡ o.kind) (changed_keeps f (set_phase phase) s (λ o. refl) h o there)

ended_there : (h t : ℕ) (phase : Phase) (s : State) (o : Object) → object_at s h ≡ Some o → is_some (object_at (end_flights t phase s) h) ≡ true
unfolding end_flights
ended_there h t phase s o there = ap is_some (at_map (end_flight t phase) h s.objects ∙ ap (option_map (end_flight t phase)) there)

discarded_there : (h f : ℕ) (s : State) (o : Object) → object_at s h ≡ Some o → is_some (object_at (discard f s) h) ≡ true
unfolding discard
discarded_there h f s o there =
    ap (λ es. is_some (at h es)) (stop_objects (option_map_or (λ o. o.phase) (object_at s f) Empty) (changed_at f (set_phase Empty) s)) ∙ phase_there h f Empty s o there

pub still_there : (place : ℕ) (e : Entry) (s t : State) → Change place e s t → (e ≡ Closed → ⊥) → (h : ℕ) (o : Object) → object_at s h ≡ Some o → is_some (object_at t h) ≡ true
still_there place e s t (Quiet shows takes quiet) going h o there = like_there (object_at s h) (object_at t h) (ap is_some there) (quiet.like h)
still_there place e s t (Making a u shows takes phase quiet made) going h o there = by (object_at u h) refl (like_there (object_at s h) (object_at u h) (ap is_some there) (quiet.like h))
  where
    by : (x : Option Object) → object_at u h ≡ x → is_some x ≡ true → is_some (object_at t h) ≡ true
    by None none is = absurd cc
    by (Some p) some is = ap (λ (t : State). is_some (object_at t h)) made ∙ ap is_some (there_with a u h p some)
still_there place e s t (Rendering f shows takes is) going h o there = ap (λ (t : State). is_some (object_at t h)) is ∙ phase_there h f (Flight place) s o there
still_there place e s t (Discarding f shows takes is) going h o there = ap (λ (t : State). is_some (object_at t h)) is ∙ discarded_there h f s o there
still_there place e s t (Finishing u entry is) going h o there = ap (λ (t : State). is_some (object_at t h)) is ∙ ended_there h u (Done u) s o there
still_there place e s t (Leaving u entry is) going h o there = ap (λ (t : State). is_some (object_at t h)) is ∙ ended_there h u Empty s o there
still_there place e s t (Closing entry is) going h o there = absurd (going entry)

-- a frame in flight, found and told
record Flies (s : State) (k : ℕ) : Type 0 where
  frame : ℕ
  object : Object
  there : object_at s frame ≡ Some object
  flight : is_flight k object.phase ≡ true

found_flying : (s : State) (k : ℕ) → IsRising s → is_flying s k ≡ true → Flies s k
found_flying s k rising is =
    let one : (h : ℕ) × (o : Object) × (object_at s h ≡ Some o) × (is_in_flight k o ≡ true) = one_that_passes (λ entry. is_in_flight k entry.1) 1 s.next s.objects rising is in
    record { frame = one.0; object = one.1; there = one.2; flight = one.3 }

told_flying : (s : State) (k : ℕ) → Flies s k → is_flying s k ≡ true
told_flying s k f = some_passes (λ entry. is_in_flight k entry.1) f.frame s.objects f.object f.there f.flight

flying_at : (s : State) (k h : ℕ) → is_flight k (showing_at s h).phase ≡ true → is_flying s k ≡ true
flying_at s k h flight = by (object_at s h) refl flight
  where
    by : (x : Option Object) → object_at s h ≡ x → is_flight k (option_map_or showing_of x nothing_shown).phase ≡ true → is_flying s k ≡ true
    by None none is = absurd cc
    by (Some o) some is = told_flying s k (record { frame = h; object = o; there = some; flight = is })

-- the frames in flight after a change, by what it makes of each
module _ (place : ℕ) (e : Entry) (s : State) (rising : IsRising s) (after_ : IsRising (change place e s)) where
  flew : (k : ℕ) → is_flying (change place e s) k ≡ true → (h : ℕ) × (is_flight k (showing_after place e h (showing_at s h)).phase ≡ true)
  flew k is =
      let one : Flies (change place e s) k = found_flying (change place e s) k after_ is in
      (one.frame, ap (λ (x : Showing). is_flight k x.phase) (sym (entry_makes place one.frame e s rising one.object one.there)) ∙ one.flight)

  flies_on : (k h : ℕ) (o : Object) → (e ≡ Closed → ⊥) → object_at s h ≡ Some o → is_flight k (showing_after place e h (showing_of o)).phase ≡ true → is_flying (change place e s) k ≡ true
  flies_on k h o going there flight = by (object_at (change place e s) h) refl (still_there place e s (change place e s) (entry_changes place e s) going h o there)
    where
      by : (x : Option Object) → object_at (change place e s) h ≡ x → is_some x ≡ true → is_flying (change place e s) k ≡ true
      by None none is = absurd cc
      by (Some p) some is =
          let shows : showing_of p ≡ showing_after place e h (showing_of o) =
          entry_makes place h e s rising p some ∙ ap (λ x. showing_after place e h (option_map_or showing_of x nothing_shown)) there in
          told_flying (change place e s) k (record { frame = h; object = p; there = some; flight = ap (λ (x : Showing). is_flight k x.phase) shows ∙ flight })

  -- where it leaves what all show
  pub same_flying : (e ≡ Closed → ⊥) → ((h : ℕ) (x : Showing) → (showing_after place e h x).phase ≡ x.phase) → (k : ℕ) → is_flying (change place e s) k ≡ is_flying s k
  same_flying going same k = same_truth (is_flying (change place e s) k) (is_flying s k)
      (λ is. (let one : (h : ℕ) × (is_flight k (showing_after place e h (showing_at s h)).phase ≡ true) = flew k is in
      flying_at s k one.0 (ap (is_flight k) (sym (same one.0 (showing_at s one.0))) ∙ one.1)))
      (λ is. (let one : Flies s k = found_flying s k rising is in flies_on k one.frame one.object going one.there (ap (is_flight k) (same one.frame (showing_of one.object)) ∙ one.flight)))

pub or_assoc : (a b c : Bool) → ((a || b) || c) ≡ (a || (b || c))
or_assoc true b c = refl
or_assoc false b c = refl

pub and_both : (b x y : Bool) → ((b && x) || (b && y)) ≡ (b && (x || y))
and_both true x y = refl
and_both false x y = refl

pub flight_is : (k : ℕ) (phase : Phase) → is_flight k phase ≡ true → phase ≡ Flight k
flight_is k Empty is = absurd cc
flight_is k (Done t) is = absurd cc
flight_is k (Flight t) is = ap Flight (eqb-true t k is)

-- a render that was granted finds its frame, and that is not in flight
pub record IsRenderable (past : Past) (f : ℕ) : Type 0 where
  object : Object
  there : object_at past.state f ≡ Some object
  landed : (k : ℕ) → is_flight k object.phase ≡ true → ⊥

no_flight : (past : Past) (phase : Phase) (k : ℕ) → in_flight past phase ≡ None → is_flight k phase ≡ true → ⊥
no_flight past Empty k none is = cc
no_flight past (Done t) k none is = cc
no_flight past (Flight t) k none is = cc

pub is_renderable : (history : History) (actor f : ℕ) → Legal (history ++ render_of actor f ∷ []) → IsRenderable (after history) f
unfolding refusal refusals_of
is_renderable history actor f legal =
    let none : refusal (after history) (RenderFrame f) ≡ None = (given (after history) (RenderFrame f) reply.Done (in_place history (render_of actor f) [] legal).0 (λ refused is. cc)).0 in
    let facts : AllNone (refusals_of_render (after history) f) = all_none (refusals_of_render (after history) f) none in
    let alive : (o : Object) × (object_at (after history).state f ≡ Some o) = is_alive (after history) f facts.0 in
    record {
      object = alive.0;
      there = alive.1;
      landed = λ k flies. no_flight (after history) alive.0.phase k (ap (λ x. in_flight (after history) (option_map_or (λ o. o.phase) x Empty)) (sym alive.1) ∙ facts.1.1.1.1.0) flies;
    }

pub render_flies : (history : History) (actor f k place : ℕ) → place ≡ next_place (after history) → Legal (history ++ render_of actor f ∷ []) →
    is_flying (changed (after history) (render_of actor f)) k ≡ ((place == k) || is_flying (after history).state k)
render_flies history actor f k place same legal =
    subst (λ place. is_flying (changed (after history) (render_of actor f)) k ≡ ((place == k) || is_flying (after history).state k)) (sym same)
    (same_truth (is_flying (changed (after history) (render_of actor f)) k) ((here == k) || is_flying (after history).state k) there back)
  where
    here : ℕ
    here = next_place (after history)

    one : IsRenderable (after history) f
    one = is_renderable history actor f legal

    later : IsRising (changed (after history) (render_of actor f))
    later = (changed_rises (after history) (render_of actor f) (rises history)).0

    of : (h : ℕ) (b : Bool) → is_flight k (cond b (with_phase (Flight (next_place (after history))) (showing_at (after history).state h)) (showing_at (after history).state h)).phase ≡ true →
        ((next_place (after history) == k) || is_flying (after history).state k) ≡ true
    of h true flight = or_left (next_place (after history) == k) (is_flying (after history).state k) flight
    of h false flight = or_right (next_place (after history) == k) (is_flying (after history).state k) (flying_at (after history).state k h flight)

    there : is_flying (changed (after history) (render_of actor f)) k ≡ true → ((next_place (after history) == k) || is_flying (after history).state k) ≡ true
    there is =
        let found : (h : ℕ) × (is_flight k (showing_after (next_place (after history)) (render_of actor f) h (showing_at (after history).state h)).phase ≡ true) =
        flew (next_place (after history)) (render_of actor f) (after history).state (rises history) later k is in
        of found.0 (f == found.0) found.1

    rendered_flies : (next_place (after history) == k) ≡ true → is_flying (changed (after history) (render_of actor f)) k ≡ true
    rendered_flies is =
        flies_on (next_place (after history)) (render_of actor f) (after history).state (rises history) later k f one.object (λ same. cc) one.there
        (ap (λ b. is_flight k (cond b (with_phase (Flight (next_place (after history))) (showing_of one.object)) (showing_of one.object)).phase) (eq-eqb f f refl) ∙ is)

    other : (x : Flies (after history).state k) (b : Bool) → (f == x.frame) ≡ b → is_flight k (cond b (with_phase (Flight (next_place (after history))) (showing_of x.object)) (showing_of x.object)).phase ≡ true
    other x false is = x.flight
    other x true is =
        let both : Some one.object ≡ Some x.object = sym one.there ∙ ap (object_at (after history).state) (eqb-true f x.frame is) ∙ x.there in
        let same : one.object ≡ x.object = cc in
        absurd (one.landed k (ap (λ (o : Object). is_flight k o.phase) same ∙ x.flight))

    back : ((next_place (after history) == k) || is_flying (after history).state k) ≡ true → is_flying (changed (after history) (render_of actor f)) k ≡ true
    back is = by (or_cases (next_place (after history) == k) (is_flying (after history).state k) is)
      where
        by : ((next_place (after history) == k) ≡ true) ⊎ (is_flying (after history).state k ≡ true) → is_flying (changed (after history) (render_of actor f)) k ≡ true
        by (inl new) = rendered_flies new
        by (inr old) =
            let x : Flies (after history).state k = found_flying (after history).state k (rises history) old in
            flies_on (next_place (after history)) (render_of actor f) (after history).state (rises history) later k x.frame x.object (λ same. cc) x.there (other x (f == x.frame) refl)

-- a flight that ends
and_false : (b : Bool) → false ≡ (b && false)
and_false true = refl
and_false false = refl

ends_by : (t k : ℕ) (phase old : Phase) (channels : List (Channel × ℕ)) → ((j : ℕ) → is_flight j phase ≡ false) →
    is_flight k (flight_ends t phase (record { phase = old; channels = channels })).phase ≡ (not (t == k) && is_flight k old)
ends_by t k phase Empty channels none = and_false (not (t == k))
ends_by t k phase (Done v) channels none = and_false (not (t == k))
ends_by t k phase (Flight v) channels none = by (v == t) refl (v == k) refl
  where
    by : (b : Bool) → (v == t) ≡ b → (c : Bool) → (v == k) ≡ c → is_flight k (cond b (with_phase phase (record { phase = Flight v; channels = channels })) (record { phase = Flight v; channels = channels })).phase ≡ (not (t == k) && c)
    by true here true other =
        let same : (t == k) ≡ true = ap (λ j. j == k) (sym (eqb-true v t here)) ∙ other in none k ∙ ap (λ b. not b && true) (sym same)
    by true here false other = none k ∙ and_false (not (t == k))
    by false here false other = other ∙ and_false (not (t == k))
    by false here true other = other ∙ ap (λ b. not b && true) (sym (apart (t == k) refl))
      where
        apart : (b : Bool) → (t == k) ≡ b → b ≡ false
        apart false is = refl
        apart true is = let wrong : (v == t) ≡ true = ap (λ j. v == j) (eqb-true t k is) ∙ other in absurd cc

ends_phase : (t k : ℕ) (phase : Phase) (x : Showing) → ((j : ℕ) → is_flight j phase ≡ false) → is_flight k (flight_ends t phase x).phase ≡ (not (t == k) && is_flight k x.phase)
ends_phase t k phase x none = ends_by t k phase x.phase x.channels none

and_left : (a b : Bool) → (a && b) ≡ true → a ≡ true
and_left true b is = refl
and_left false b is = absurd cc

pub and_right : (a b : Bool) → (a && b) ≡ true → b ≡ true
and_right true b is = is
and_right false b is = absurd cc

and_of : (a b : Bool) → a ≡ true → b ≡ true → (a && b) ≡ true
and_of true b first second = second
and_of false b first second = absurd cc

-- where an entry ends the flight with a ticket, and leaves all else
pub note_flies : (place t : ℕ) (phase : Phase) (e : Entry) (s : State) (k : ℕ) → IsRising s → IsRising (change place e s) → (e ≡ Closed → ⊥) → ((j : ℕ) → is_flight j phase ≡ false) →
    ((h : ℕ) (x : Showing) → showing_after place e h x ≡ flight_ends t phase x) → is_flying (change place e s) k ≡ (not (t == k) && is_flying s k)
note_flies place t phase e s k rising later going none makes = same_truth (is_flying (change place e s) k) (not (t == k) && is_flying s k) there back
  where
    there : is_flying (change place e s) k ≡ true → (not (t == k) && is_flying s k) ≡ true
    there is =
        let one : (h : ℕ) × (is_flight k (showing_after place e h (showing_at s h)).phase ≡ true) = flew place e s rising later k is in
        let both : (not (t == k) && is_flight k (showing_at s one.0).phase) ≡ true =
        sym (ends_phase t k phase (showing_at s one.0) none) ∙ ap (λ (x : Showing). is_flight k x.phase) (sym (makes one.0 (showing_at s one.0))) ∙ one.1 in
        and_of (not (t == k)) (is_flying s k) (and_left (not (t == k)) (is_flight k (showing_at s one.0).phase) both)
        (flying_at s k one.0 (and_right (not (t == k)) (is_flight k (showing_at s one.0).phase) both))

    back : (not (t == k) && is_flying s k) ≡ true → is_flying (change place e s) k ≡ true
    back is =
        let x : Flies s k = found_flying s k rising (and_right (not (t == k)) (is_flying s k) is) in
        flies_on place e s rising later k x.frame x.object going x.there
        (ap (λ (x : Showing). is_flight k x.phase) (makes x.frame (showing_of x.object)) ∙ ends_phase t k phase (showing_of x.object) none
        ∙ and_of (not (t == k)) (is_flight k x.object.phase) (and_left (not (t == k)) (is_flying s k) is) x.flight)

-- a discard: its flight is stopped, and flies on
pub discard_flies : (place actor f k : ℕ) (s : State) → IsRising s → IsRising (change place (Called actor (DiscardFrame f) reply.Done) s) →
    (is_flying (change place (Called actor (DiscardFrame f) reply.Done) s) k || (has k s.stopped || is_flight k (showing_at s f).phase)) ≡ (is_flying s k || has k s.stopped)
discard_flies place actor f k s rising later =
    same_truth (is_flying (change place (Called actor (DiscardFrame f) reply.Done) s) k || (has k s.stopped || is_flight k (showing_at s f).phase)) (is_flying s k || has k s.stopped) there back
  where
    of : (h : ℕ) (b : Bool) → is_flight k (cond b (with_phase Empty (showing_at s h)) (showing_at s h)).phase ≡ true → is_flying s k ≡ true
    of h true flight = absurd cc
    of h false flight = flying_at s k h flight

    there : (is_flying (change place (Called actor (DiscardFrame f) reply.Done) s) k || (has k s.stopped || is_flight k (showing_at s f).phase)) ≡ true → (is_flying s k || has k s.stopped) ≡ true
    there is = by (or_cases (is_flying (change place (Called actor (DiscardFrame f) reply.Done) s) k) (has k s.stopped || is_flight k (showing_at s f).phase) is)
      where
        second : (has k s.stopped ≡ true) ⊎ (is_flight k (showing_at s f).phase ≡ true) → (is_flying s k || has k s.stopped) ≡ true
        second (inl stopped) = or_right (is_flying s k) (has k s.stopped) stopped
        second (inr flight) = or_left (is_flying s k) (has k s.stopped) (flying_at s k f flight)

        by : (is_flying (change place (Called actor (DiscardFrame f) reply.Done) s) k ≡ true) ⊎ ((has k s.stopped || is_flight k (showing_at s f).phase) ≡ true) → (is_flying s k || has k s.stopped) ≡ true
        by (inl flies) =
            let one : (h : ℕ) × (is_flight k (showing_after place (Called actor (DiscardFrame f) reply.Done) h (showing_at s h)).phase ≡ true) =
            flew place (Called actor (DiscardFrame f) reply.Done) s rising later k flies in
            or_left (is_flying s k) (has k s.stopped) (of one.0 (f == one.0) one.1)
        by (inr rest) = second (or_cases (has k s.stopped) (is_flight k (showing_at s f).phase) rest)

    back : (is_flying s k || has k s.stopped) ≡ true → (is_flying (change place (Called actor (DiscardFrame f) reply.Done) s) k || (has k s.stopped || is_flight k (showing_at s f).phase)) ≡ true
    back is = by (or_cases (is_flying s k) (has k s.stopped) is)
      where
        flies : (x : Flies s k) (b : Bool) → (f == x.frame) ≡ b →
            (is_flying (change place (Called actor (DiscardFrame f) reply.Done) s) k || (has k s.stopped || is_flight k (showing_at s f).phase)) ≡ true
        flies x true is =
            let here : is_flight k (showing_at s f).phase ≡ true =
            ap (λ h. is_flight k (showing_at s h).phase) (eqb-true f x.frame is) ∙ ap (λ o. is_flight k (option_map_or showing_of o nothing_shown).phase) x.there ∙ x.flight in
            or_right (is_flying (change place (Called actor (DiscardFrame f) reply.Done) s) k) (has k s.stopped || is_flight k (showing_at s f).phase)
            (or_right (has k s.stopped) (is_flight k (showing_at s f).phase) here)
        flies x false is =
            or_left (is_flying (change place (Called actor (DiscardFrame f) reply.Done) s) k) (has k s.stopped || is_flight k (showing_at s f).phase)
            (flies_on place (Called actor (DiscardFrame f) reply.Done) s rising later k x.frame x.object (λ same. cc) x.there
            (ap (λ b. is_flight k (cond b (with_phase Empty (showing_of x.object)) (showing_of x.object)).phase) is ∙ x.flight))

        by : (is_flying s k ≡ true) ⊎ (has k s.stopped ≡ true) → (is_flying (change place (Called actor (DiscardFrame f) reply.Done) s) k || (has k s.stopped || is_flight k (showing_at s f).phase)) ≡ true
        by (inl old) = let x : Flies s k = found_flying s k rising old in flies x (f == x.frame) refl
        by (inr stopped) =
            or_right (is_flying (change place (Called actor (DiscardFrame f) reply.Done) s) k) (has k s.stopped || is_flight k (showing_at s f).phase)
            (or_left (has k s.stopped) (is_flight k (showing_at s f).phase) stopped)
