-- Where a store stands after a call was carried out, and what does not live is gone.
use Rattle.std.proofs.Common.{ℕ, ◌+◌, ◌≡◌, ◌∙◌, nat_lt, Bool, true, false, [], ◌∷◌, ◌++◌, Option, Some, None, length, refl, sym, ap, subst}
use Rattle.std.specs.Prelude.{count_by, ◌||◌}
use Rattle.std.specs.Map.{keys_of}
use Rattle.std.specs.Option.{IsSome, is_some}
use Rattle.std.specs.List.{filter_map}
use Rattle.std.proofs.lemmas.Map.Entries.{option_filter}
use Rattle.object_store.specs.Gathers.{IsLeft, buried, root_in}
use Rattle.object_store.specs.Kept.{CountsItsObjects, Stored, number_at}
use Rattle.object_store.proofs.Counted.{is_some_by, none_by}
use Rattle.seq_model.specs.Histories.{History, public, rendered}
use Rattle.seq_model.specs.Legal.{Legal}
use Rattle.seq_model.specs.Life.{is_root, loan_count}
use Rattle.seq_model.specs.Soundness.{AllSound, IsRanked}
use Rattle.seq_model.specs.State.{Object, State, flights, object_at, ticket_in}
use Rattle.seq_model.specs.Steps.{Past, after, change, effect, is_reached, is_reached_by, step, swept, with_reach, next_place}
use Rattle.seq_model.specs.declared.calls.Call.{Call}
use Rattle.seq_model.specs.declared.calls.Call.TheVariants.{RenderFrame}
use Rattle.seq_model.specs.Told.{end_of_object, gone, removed, status_at, told_by}
use Rattle.seq_model.specs.declared.calls.Entry.{Entry}
use Rattle.seq_model.specs.declared.calls.Entry.TheVariants.{Called, Closed, Finished, Left}
use Rattle.seq_model.specs.declared.calls.Reply.{Reply}
use Rattle.seq_model.specs.declared.calls.Reply.TheVariants as reply
use Rattle.seq_model.proofs.Afters.{after_more, seen_is_history}
use Rattle.seq_model.proofs.Handles.{changed, changed_rises, rises as all_rise, step_state}
use Rattle.seq_model.proofs.Keys.{RisesWithin, all_from_at, at, at_filter}
use Rattle.seq_model.proofs.Prefixes.{in_place, prefix_is_legal}
use Rattle.seq_model.proofs.Reached.{step_reached}
use Rattle.seq_model.proofs.SoundHistories.{changed_is_sound, legal_is_sound, sound_is_ranked}
use Rattle.seq_model.proofs.Sweeps.{IsFlown, flown, flown_changed, flying_is_reached, place_after, reached_is_root}
use Rattle.object_steps.specs.Carrying.{CanCarry, carried}
use Rattle.object_steps.specs.Resting.{Follows, IsAtRest, IsOfObjects, reaches}
use Rattle.object_steps.proofs.Counts.{alike, holds_moved, no_number, public_moved}
use Rattle.object_steps.proofs.Effects.{effect_flights}
use Rattle.object_steps.proofs.Tickets.{live_alike, kept_tickets, none_counted, some_counted, tickets}

-- a call on objects renders nothing
no_render : (actor : ℕ) (call : Call) (r : Reply) → IsOfObjects call r → rendered (Called actor call r) ≡ None
no_render actor (RenderFrame h) reply.Done objects = absurd objects
no_render actor _ r objects = refl

-- what is removed by an entry but the close
removed_is : (past : Past) (e : Entry) → (e ≡ Closed → ⊥) → removed past e ≡ gone (change (next_place past) e past.state) (step past e).state
removed_is past (Called actor call r) open_ = refl
removed_is past (Finished t) open_ = refl
removed_is past (Left t) open_ = refl
removed_is past Closed open_ = absurd (open_ refl)

-- what an entry leads to, before and after what does not live is gone
module _ (history : History) (e : Entry) where
  seen_next : (step (after history) e).seen ≡ history ++ e ∷ []
  seen_next = ap (λ (past : Past). past.seen) (sym (after_more history e)) ∙ seen_is_history (history ++ e ∷ [])

  swept_next : swept (history ++ e ∷ []) (step (after history) e).reached (changed (after history) e) ≡ (after (history ++ e ∷ [])).state
  swept_next =
      ap (λ seen. swept seen (step (after history) e).reached (changed (after history) e)) (sym seen_next) ∙ sym (step_state (after history) e) ∙ ap (λ (past : Past). past.state) (sym (after_more history e))

module _ (history : History) (e : Entry) (moved : Stored) (follows : Follows moved history e) where
  rising : RisesWithin 1 moved.state.next (keys_of moved.state.objects)
  rising = subst (λ (st : State). RisesWithin 1 st.next (keys_of st.objects)) (sym follows.state) (changed_rises (after history) e (all_rise history)).0

  -- who lives by itself is told alike
  root_alike : (h : ℕ) (o : Object) → object_at moved.state h ≡ Some o →
      root_in moved (h, o) ≡ is_root (public (history ++ e ∷ [])) (is_reached (step (after history) e).reached moved.state) (h, o)
  unfolding is_root is_reached
  root_alike h o there =
      ap (λ n. nat_lt 0 n || nat_lt 0 (loan_count o) || nat_lt 0 (number_at moved.holds h)) (follows.public h (is_some_by (object_at moved.state h) o there))
      ∙ ap (λ t. nat_lt 0 (public (history ++ e ∷ []) h) || nat_lt 0 (loan_count o) || t)
      (ap (nat_lt 0) (follows.holds h) ∙ some_counted (λ t. is_reached_by (step (after history) e).reached t h) (flights moved.state))

  -- so what is buried is what the history leaves
  buried_is : buried moved ≡ (after (history ++ e ∷ [])).state
  unfolding swept
  buried_is =
      ap (λ live_. record moved.state { objects = live_ })
      (live_alike (root_in moved) (is_root (public (history ++ e ∷ [])) (is_reached (step (after history) e).reached moved.state)) moved.state.objects
      (all_from_at (λ (x : ℕ × Object). root_in moved x ≡ is_root (public (history ++ e ∷ [])) (is_reached (step (after history) e).reached moved.state) x) 1 moved.state.next moved.state.objects rising root_alike))
      ∙ ap (swept (history ++ e ∷ []) (step (after history) e).reached) follows.state ∙ swept_next history e

  -- what is there stands by rank
  pub ranked : IsRanked moved.state.objects
  ranked =
      sound_is_ranked moved.state
      (subst AllSound (sym follows.state) (changed_is_sound history e (in_place history e [] follows.legal) (legal_is_sound history (prefix_is_legal history (e ∷ []) follows.legal))))

  flown_moved : IsFlown (step (after history) e).reached moved.state
  flown_moved = subst (IsFlown (step (after history) e).reached) (sym follows.state) (flown_changed history e (flown history))

  -- what dies with the entry is what the definitions tell of
  pub ends_told : (left : State) → left ≡ buried moved → (e ≡ Closed → ⊥) → told_by (after history) e ≡ status_at e ++ filter_map end_of_object (gone moved.state left)
  unfolding told_by
  ends_told left is_buried open_ =
      ap (λ dead. status_at e ++ filter_map end_of_object dead)
      (removed_is (after history) e open_
      ∙ sym (ap (λ st. gone st left) follows.state ∙ ap (gone (changed (after history) e)) (is_buried ∙ buried_is ∙ ap (λ (past : Past). past.state) (after_more history e))))

  module _ (left : Stored) (counts_moved : CountsItsObjects moved) (counts_left : CountsItsObjects left) (is_left : IsLeft moved left) (is_buried : left.state ≡ buried moved) where
    -- what a flight reached is left
    reached_left : (h : ℕ) (o : Object) → object_at moved.state h ≡ Some o → is_reached (step (after history) e).reached moved.state h ≡ true → IsSome (object_at left.state h)
    reached_left h o there reached =
        is_left.roots h o there (root_alike h o there ∙ reached_is_root (public (history ++ e ∷ [])) (is_reached (step (after history) e).reached moved.state) h o reached)

    flights_left : flights left.state ≡ flights moved.state
    flights_left =
        ap (λ es. tickets es ++ left.state.stopped) is_left.kept
        ∙ ap (λ ts. ts ++ left.state.stopped)
        (kept_tickets (λ (x : ℕ × Object). is_some (at x.0 left.state.objects)) moved.state.objects
        (all_from_at (λ (x : ℕ × Object). (u : ℕ) → ticket_in x.1.phase ≡ Some u → is_some (at x.0 left.state.objects) ≡ true) 1 moved.state.next moved.state.objects rising
        (λ h o there u flies. reached_left h o there (flying_is_reached (step (after history) e).reached moved.state h u o flown_moved there flies))))
        ∙ ap (λ us. tickets moved.state.objects ++ us) is_left.stopped

    -- what is left was there
    still_there : (h : ℕ) → IsSome (object_at left.state h) → IsSome (object_at moved.state h)
    still_there h some = some_before (object_at moved.state h)
        (sym (ap is_some (ap (at h) is_left.kept ∙ at_filter (λ (x : ℕ × Object). is_some (at x.0 left.state.objects)) h 1 moved.state.next moved.state.objects rising)) ∙ some)
      where
        some_before : (x : Option Object) → is_some (option_filter (λ o. is_some (at h left.state.objects)) x) ≡ true → IsSome x
        some_before None is = absurd cc
        some_before (Some o) is = refl

    -- what is gone was reached by no flight
    gone_unreached : (h : ℕ) → is_some (object_at left.state h) ≡ false → number_at moved.holds h ≡ 0
    unfolding is_reached
    gone_unreached h gone = by (object_at moved.state h) refl
      where
        by : (x : Option Object) → object_at moved.state h ≡ x → number_at moved.holds h ≡ 0
        by None none = no_number moved.holds h (alike h moved.state.objects moved.holds counts_moved.holds none)
        by (Some o) there =
            follows.holds h
            ∙ none_counted (λ t. is_reached_by (step (after history) e).reached t h) (flights moved.state) (unreached (is_reached (step (after history) e).reached moved.state h) refl)
          where
            unreached : (t : Bool) → is_reached (step (after history) e).reached moved.state h ≡ t → is_reached (step (after history) e).reached moved.state h ≡ false
            unreached false is = is
            unreached true is = let wrong : true ≡ false = sym (reached_left h o there is) ∙ gone in absurd cc

    holds_left : (h : ℕ) → number_at left.holds h ≡ number_at moved.holds h
    holds_left h = by (is_some (object_at left.state h)) refl
      where
        by : (t : Bool) → is_some (object_at left.state h) ≡ t → number_at left.holds h ≡ number_at moved.holds h
        by true is = is_left.holds h is
        by false is = no_number left.holds h (alike h left.state.objects left.holds counts_left.holds (none_by (object_at left.state h) is)) ∙ sym (gone_unreached h is)

    -- and the store rests again
    pub rests : IsAtRest left (history ++ e ∷ [])
    rests = record {
      legal = follows.legal;
      state = is_buried ∙ buried_is;
      public = λ h some. is_left.public h some ∙ follows.public h (still_there h some);
      holds = λ h.
          holds_left h ∙ follows.holds h ∙ ap (count_by (λ t. is_reached_by (step (after history) e).reached t h)) (sym flights_left)
          ∙ ap (λ (past : Past). reaches past.reached left.state h) (sym (after_more history e));
    }

-- a call that was carried out is one more entry
module _ (s : Stored) (history : History) (actor : ℕ) (call : Call) (r : Reply) (rest : IsAtRest s history) (counts : CountsItsObjects s) (objects : IsOfObjects call r) (can : CanCarry s call r)
    (legal : Legal (history ++ Called actor call r ∷ [])) where
  state_moved : (carried (length history + 1) call r s).state ≡ changed (after history) (Called actor call r)
  unfolding change
  state_moved = ap (effect (length history + 1) call r) rest.state ∙ ap (λ n. effect n call r (after history).state) (sym (place_after history))

  reached_moved : (step (after history) (Called actor call r)).reached ≡ (after history).reached
  unfolding with_reach
  reached_moved =
      step_reached history (Called actor call r) ∙ ap (λ x. with_reach (length history + 1) x (after history).state (after history).reached) (no_render actor call r objects)

  pub follows : Follows (carried (length history + 1) call r s) history (Called actor call r)
  follows = record {
    legal = legal;
    state = state_moved;
    public = λ h some. public_moved s history rest counts actor call r legal can h;
    holds = λ h.
        holds_moved s history rest counts call r h ∙ rest.holds h
        ∙ ap (count_by (λ t. is_reached_by (after history).reached t h)) (sym (effect_flights (length history + 1) call r s.state objects))
        ∙ ap (λ reached. reaches reached (carried (length history + 1) call r s).state h) (sym reached_moved);
  }
