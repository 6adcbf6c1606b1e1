-- A store in which a flight ended, and was let go, is one entry further.
use Rattle.std.proofs.Common.{◌≡◌, ◌∙◌, ℕ, ◌+◌, ◌≤◌, Bool, true, false, cond, List, [], ◌∷◌, ◌++◌, Option, Some, None, refl, sym, ap, subst, arith}
use Rattle.std.specs.Option.{IsSome, option_map}
use Rattle.dev_types.specs.Counting.{times}
use Rattle.object_store.specs.Kept.{Stored, number_at}
use Rattle.object_store.specs.Parts.{at}
use Rattle.object_store.proofs.Keyed.{at_keyed}
use Rattle.object_steps.specs.Resting.{Follows, IsAtRest, KeepsReferences, reaches}
use Rattle.object_steps.proofs.ReachLaws.{reaches_of_a_finish, reaches_of_a_leave, references_stay}
use Rattle.flight_books.specs.Sweeps.{note}
use Rattle.seq_model.specs.Histories.{History}
use Rattle.seq_model.specs.Legal.{Legal}
use Rattle.seq_model.specs.State.{Done, Empty, Object, Phase, State, is_in_flight, object_at}
use Rattle.seq_model.specs.Steps.{after, change, end_flight, end_flights, is_reached_by, next_place, set_phase, step}
use Rattle.device_parts.specs.Holds.{held_less}
use Rattle.device_parts.proofs.HoldFacts.{held_less_is}

-- whether a flight reached an object, as a number
abbrev pub once : History → ℕ → ℕ → ℕ
once history t h = cond (is_reached_by (after history).reached t h) 1 0

-- an object that is there after the end of a flight was there
ended_there : (t h : ℕ) (phase : Phase) (s : State) → IsSome (object_at (end_flights t phase s) h) → IsSome (object_at s h)
unfolding end_flights end_flight
ended_there t h phase s there = back (at h s.objects) (subst IsSome (at_keyed (λ _ o. cond (is_in_flight t o) (set_phase phase o) o) h s.objects) there)
  where
    back : (o : Option Object) → IsSome (option_map (λ o. cond (is_in_flight t o) (set_phase phase o) o) o) → IsSome o
    back None there = there
    back (Some o) there = refl

pub noted_there : (place : ℕ) (stopped : Bool) (t h : ℕ) (s : State) → IsSome (object_at (change place (note stopped t) s) h) → IsSome (object_at s h)
unfolding change
noted_there place true t h s there = ended_there t h Empty s there
noted_there place false t h s there = ended_there t h (Done t) s there

-- a flight that ended reaches nothing any more
fewer : (history : History) (stopped : Bool) (t h : ℕ) → Legal (history ++ note stopped t ∷ []) →
    reaches (step (after history) (note stopped t)).reached (change (next_place (after history)) (note stopped t) (after history).state) h + once history t h
    ≡ reaches (after history).reached (after history).state h
fewer history true t h legal = reaches_of_a_leave history h t legal
fewer history false t h legal = reaches_of_a_finish history h t legal

module _ (s : Stored) (history : History) (stopped : Bool) (t : ℕ) (reach : List ℕ) (rest : IsAtRest s history) (legal : Legal (history ++ note stopped t ∷ []))
    (reached : (h : ℕ) → times h reach ≡ once history t h) where
  -- what the flight held, it held
  pub was_held : (h : ℕ) → times h reach ≤ number_at s.holds h
  was_held h =
      let moves = fewer history stopped t h legal in
      let holds : number_at s.holds h ≡ reaches (after history).reached (after history).state h = rest.holds h ∙ ap (λ (x : State). reaches (after history).reached x h) rest.state in
      let is = reached h in
      omega (arith, moves, holds, is)

  abbrev moved : Stored
  moved = record s { state = change (next_place (after history)) (note stopped t) s.state; holds = held_less reach s.holds }

  pub noted_follows : Follows moved history (note stopped t)
  noted_follows = record {
    legal = legal;
    state = ap (change (next_place (after history)) (note stopped t)) rest.state;
    public = λ h there. rest.public h (noted_there (next_place (after history)) stopped t h s.state there) ∙ sym (references_stay history (note stopped t) h legal (keeps stopped));
    holds = holds;
  }
    where
      keeps : (b : Bool) → KeepsReferences (note b t)
      keeps true = tt
      keeps false = tt

      holds : (h : ℕ) → number_at (held_less reach s.holds) h ≡ reaches (step (after history) (note stopped t)).reached (change (next_place (after history)) (note stopped t) s.state) h
      holds h =
          let moves = fewer history stopped t h legal in
          let held : number_at s.holds h ≡ reaches (after history).reached (after history).state h = rest.holds h ∙ ap (λ (x : State). reaches (after history).reached x h) rest.state in
          let is = reached h in
          let less = held_less_is reach s.holds was_held h in
          let same : number_at (held_less reach s.holds) h ≡ reaches (step (after history) (note stopped t)).reached (change (next_place (after history)) (note stopped t) (after history).state) h =
          omega (arith, moves, held, is, less) in
          same ∙ sym (ap (λ (x : State). reaches (step (after history) (note stopped t)).reached (change (next_place (after history)) (note stopped t) x) h) rest.state)
