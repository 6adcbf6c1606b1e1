-- A flight that a render begins: it may begin, its objects are held, and the store in which it began is one entry further.
use Rattle.std.proofs.Common.{◌≡◌, ◌∙◌, ◌⊎◌, inl, inr, ℕ, ◌+◌, ◌≤◌, ◌<◌, true, false, List, [], ◌∷◌, ◌++◌, Option, Some, None, length, map, refl, sym, ap, subst, arith}
use Rattle.std.specs.Prelude.{IsSome, nat_lt}
use Rattle.std.specs.List.{AllByRecursion}
use Rattle.std.specs.Option.{is_some, option_map_or, unwrap_or}
use Rattle.std.proofs.lemmas.Bool.{cases_eq}
use Rattle.std.proofs.lemmas.Bool.Decides.{nat_tests}
use Rattle.dev_types.specs.Counting.{times}
use Rattle.dev_types.proofs.SumLaws.{times-more, times-other, times-same}
use Rattle.dev_types.specs.declared.refusals.Refused.TheVariants.{ChannelMapped, InFlight}
use Rattle.frame_future.specs.Flights.{Flying}
use Rattle.frame_future.specs.Future.{Finished, Future, IsLater, flight_of, is_mapped, phase_by, shown_by}
use Rattle.kind_tables.specs.Walks.{visited, walk}
use Rattle.object_store.specs.Kept.{CountsItsObjects, Stored, number_at}
use Rattle.object_store.specs.Parts.{at}
use Rattle.object_store.proofs.DeadSteps.{has_key}
use Rattle.object_steps.specs.Resting.{Follows, IsAtRest, reaches}
use Rattle.object_steps.proofs.ReachLaws.{reaches_of_a_render, references_stay}
use Rattle.past_laws.specs.Worlds.{render_of}
use Rattle.seq_model.proofs.Afters.{frame_within, seen_is_history}
use Rattle.seq_model.proofs.Changes.{keys_of_changed}
use Rattle.seq_model.proofs.Flights.{own_tickets}
use Rattle.seq_model.proofs.Granted.{AllNone, all_none, does_not_apply, given}
use Rattle.seq_model.proofs.Keys.{at_changed, at_unchanged}
use Rattle.seq_model.proofs.Prefixes.{in_place}
use Rattle.seq_model.specs.Histories.{History}
use Rattle.seq_model.specs.Legal.{Legal}
use Rattle.seq_model.specs.Life.{has}
use Rattle.seq_model.specs.Pictures.{tiles_at}
use Rattle.seq_model.specs.Refusals.{in_flight, mapped_at, phase_at, refusal, refusals_of, refusals_of_render}
use Rattle.seq_model.specs.State.{Done, Empty, Flight, Object, State, changed_at, object_at, scene_objects}
use Rattle.seq_model.specs.Steps.{after, change, effect, next_place, set_phase, step}
use Rattle.seq_model.specs.Tickets.{ticket_of}
use Rattle.seq_model.specs.declared.calls.Call.TheVariants.{RenderFrame}
use Rattle.seq_model.specs.declared.calls.Reply.TheVariants as reply
use Rattle.device_laws.proofs.LentFacts.{nothing_mapped}
use Rattle.device_laws.proofs.StandingFacts.{phases_agree}
use Rattle.device_laws.specs.Flown.{Flown, IsRun, runs_of}
use Rattle.device_laws.specs.Lent.{AreLent}
use Rattle.device_laws.specs.Standing.{Standing, phase_as}
use Rattle.device_parts.specs.Holds.{Holds, held_too, hold}
use Rattle.device_parts.specs.Renders.{HasEachOnce}

-- a render that was done was not refused
pub not_refused : (history : History) (actor f : ℕ) → Legal (history ++ render_of actor f ∷ []) → refusal (after history) (RenderFrame f) ≡ None
not_refused history actor f legal = (given (after history) (RenderFrame f) reply.Done (in_place history (render_of actor f) [] legal).0 (λ refused is. cc)).0

module _ (history : History) (future : Future) (actor f : ℕ) (legal : Legal (history ++ render_of actor f ∷ [])) (flown : Flown history (runs_of future.flights)) where
  facts : AllNone (refusals_of_render (after history) f)
  unfolding refusal refusals_of
  facts = all_none (refusals_of_render (after history) f) (not_refused history actor f legal)

  -- its frame is not in flight
  pub landed : Standing history (runs_of future.flights) future.pictures → flight_of future f ≡ None
  landed stands = by (flight_of future f) refl (phases_agree history future flown stands f)
    where
      not_flying : (t : ℕ) → phase_at (after history) f ≡ Flight t → ⊥
      not_flying t is = let wrong : Some (InFlight 0 (tiles_at (after history).seen t)) ≡ None = sym (ap (in_flight (after history)) is) ∙ facts.1.1.1.1.0 in cc

      by : (x : Option Flying) → flight_of future f ≡ x → phase_at (after history) f ≡ phase_as (phase_by x (shown_by future f)) → x ≡ None
      by None none phase = refl
      by (Some g) some phase = absurd (not_flying g.ticket phase)

  -- no channel of it is mapped
  pub unmapped : AreLent history future.pictures → is_mapped future f ≡ false
  unmapped lent = nothing_mapped history future f lent (no_length (mapped_at (after history) f) (does_not_apply (nat_lt 0 (length (mapped_at (after history) f))) ChannelMapped facts.1.1.1.1.1.0))
    where
      no_length : {X : Type 0} (xs : List X) → nat_lt 0 (length xs) ≡ false → xs ≡ []
      no_length [] is = refl
      no_length (x ∷ xs) is = absurd (let wrong : nat_lt 0 (length (x ∷ xs)) ≡ true = grind (arith, nat_tests) in let no : true ≡ false = sym wrong ∙ is in cc)

  -- all earlier tickets are places of the history
  pub later : Standing history (runs_of future.flights) future.pictures → IsLater future (length history + 1)
  later stands = record { flights = flights future.flights flown.each; pictures = pictures future.pictures stands.shown }
    where
      flights : (fs : List Flying) → AllByRecursion (IsRun history) (runs_of fs) → AllByRecursion (λ t. t < length history + 1) (map (λ f. f.ticket) fs)
      flights [] all = tt
      flights (g ∷ fs) all = (let within = (frame_within history g.ticket g.frame all.0.frame).1 in omega (arith, within), flights fs all.1)

      place : (h t : ℕ) (o : Option Object) → object_at (after history).state h ≡ o → option_map_or (λ (o : Object). o.phase) o Empty ≡ Done t → t ≤ length history
      place h t None none is = absurd cc
      place h t (Some o) some is = (frame_within history t h (own_tickets history h t o some (ap ticket_of is))).1

      pictures : (ps : List Finished) → AllByRecursion (λ p. phase_at (after history) p.frame ≡ Done p.ticket) ps → AllByRecursion (λ t. t < length history + 1) (map (λ p. p.ticket) ps)
      pictures [] all = tt
      pictures (p ∷ ps) all = (let within = place p.frame p.ticket (object_at (after history).state p.frame) refl all.0 in omega (arith, within), pictures ps all.1)

-- an object that is there is held once more
hold_there : (holds : Holds) (j k : ℕ) → IsSome (at j holds) → IsSome (at j (hold holds k))
hold_there holds j k there = by (cases_eq j k)
  where
    some : (o : Option ℕ) → at k holds ≡ o → IsSome o → IsSome (at k (hold holds k))
    some None none there = absurd (let wrong : false ≡ true = there in cc)
    some (Some v) is there = ap is_some (at_changed k holds v (number_at holds k + 1) is)

    by : (j ≡ k) ⊎ (j ≡ k → ⊥) → IsSome (at j (hold holds k))
    by (inl same) = subst (λ x. IsSome (at x (hold holds k))) (sym same) (some (at k holds) refl (subst (λ x. IsSome (at x holds)) same there))
    by (inr apart) = ap is_some (at_unchanged k j holds (number_at holds k + 1) apart) ∙ there

hold_is : (holds : Holds) (h k : ℕ) → IsSome (at k holds) → number_at (hold holds k) h ≡ number_at holds h + times h (k ∷ [])
hold_is holds h k there = by (cases_eq h k)
  where
    here : (o : Option ℕ) → at k holds ≡ o → IsSome o → number_at (hold holds k) k ≡ number_at holds k + 1
    here None none there = absurd (let wrong : false ≡ true = there in cc)
    here (Some v) is there = ap (λ o. unwrap_or o 0) (at_changed k holds v (number_at holds k + 1) is)

    by : (h ≡ k) ⊎ (h ≡ k → ⊥) → number_at (hold holds k) h ≡ number_at holds h + times h (k ∷ [])
    by (inl same) =
        let one : times k (k ∷ []) ≡ 1 + 0 = times-same k [] in
        let more = here (at k holds) refl there in
        subst (λ x. number_at (hold holds k) x ≡ number_at holds x + times x (k ∷ [])) (sym same) (omega (arith, one, more))
    by (inr apart) =
        let still : number_at (hold holds k) h ≡ number_at holds h = ap (λ o. unwrap_or o 0) (at_unchanged k h holds (number_at holds k + 1) apart) in
        let none : times h (k ∷ []) ≡ 0 = times-other h k [] (λ e. apart (sym e)) in
        omega (arith, still, none)

-- each object of a reach is held as often more as it stands there
pub held_too_is : (reach : List ℕ) (holds : Holds) → ((k : ℕ) → 0 < times k reach → IsSome (at k holds)) → (h : ℕ) → number_at (held_too reach holds) h ≡ number_at holds h + times h reach
held_too_is [] holds there h = let none : times h [] ≡ 0 = refl in omega (arith, none)
held_too_is (k ∷ reach) holds there h =
    let here : IsSome (at k holds) = there k (let one : times k (k ∷ reach) ≡ 1 + times k reach = times-same k reach in omega (arith, one)) in
    let first = hold_is holds h k here in
    let rest = held_too_is reach (hold holds k) (λ j some. hold_there holds j k (there j (let parts : times j (k ∷ reach) ≡ times j (k ∷ []) + times j reach = times-more j k reach in omega (arith, parts, some)))) h in
    let parts : times h (k ∷ reach) ≡ times h (k ∷ []) + times h reach = times-more h k reach in
    omega (arith, first, rest, parts)

module _ (s : Stored) (history : History) (actor f : ℕ) (reach : List ℕ) (rest : IsAtRest s history) (counted : CountsItsObjects s) (legal : Legal (history ++ render_of actor f ∷ []))
    (once : HasEachOnce (visited (walk (scene_objects (after history).state) f)) reach) (there : (h : ℕ) → 0 < times h reach → IsSome (object_at s.state h)) where
  abbrev pub moved : Stored
  moved = record s { state = changed_at f (set_phase (Flight (length history + 1))) s.state; holds = held_too reach s.holds }

  -- whoever is there can be held
  can_hold : (h : ℕ) → 0 < times h reach → IsSome (at h s.holds)
  can_hold h some = sym (has_key h s.holds) ∙ ap (has h) counted.holds ∙ has_key h s.state.objects ∙ there h some

  was_there : (h : ℕ) → IsSome (object_at (changed_at f (set_phase (Flight (length history + 1))) s.state) h) → IsSome (object_at s.state h)
  was_there h is =
      sym (has_key h s.state.objects)
      ∙ ap (has h) (sym (keys_of_changed f (set_phase (Flight (length history + 1))) s.state))
      ∙ has_key h moved.state.objects
      ∙ is

  place : next_place (after history) ≡ length history + 1
  place = ap (λ (seen : History). length seen + 1) (seen_is_history history)

  state_is : moved.state ≡ change (next_place (after history)) (render_of actor f) (after history).state
  unfolding change effect
  state_is = ap (changed_at f (set_phase (Flight (length history + 1)))) rest.state ∙ sym (ap (λ n. changed_at f (set_phase (Flight n)) (after history).state) place)

  held : (h : ℕ) → number_at (held_too reach s.holds) h ≡ reaches (step (after history) (render_of actor f)).reached moved.state h
  held h =
      let more = held_too_is reach s.holds can_hold h in
      let was : number_at s.holds h ≡ reaches (after history).reached (after history).state h = rest.holds h ∙ ap (λ (x : State). reaches (after history).reached x h) rest.state in
      let each = once h in
      let now = reaches_of_a_render history h actor f legal in
      let same : number_at (held_too reach s.holds) h ≡ reaches (step (after history) (render_of actor f)).reached (change (next_place (after history)) (render_of actor f) (after history).state) h =
      omega (arith, more, was, each, now) in
      same ∙ ap (λ (x : State). reaches (step (after history) (render_of actor f)).reached x h) (sym state_is)

  pub render_follows : Follows moved history (render_of actor f)
  render_follows = record {
    legal = legal;
    state = state_is;
    public = λ h is. rest.public h (was_there h is) ∙ sym (references_stay history (render_of actor f) h legal tt);
    holds = held;
  }
