-- Where an object of a state comes from: it was just made, or it was there before, in what one entry makes of it.
use Rattle.std.proofs.Common.{ℕ, ◌==◌, ◌≡◌, ◌<◌, ◌≤◌, ◌∙◌, ◌⊎◌, inl, inr, Bool, true, false, [], ◌∷◌, ◌++◌, Option, Some, None, refl, sym, ap, subst, arith}
use Rattle.std.specs.BTreeMap.{is_at}
use Rattle.std.specs.Ordering.{nat_cmp}
use Rattle.std.specs.Option.{option_map, option_or}
use Rattle.std.proofs.lemmas.Bool.{cases_eq, eqb-true}
use Rattle.std.proofs.lemmas.Map.Entries.{option_filter}
use Rattle.seq_model.proofs.Afters.{after_both, keeps_by}
use Rattle.seq_model.proofs.Changes.{AreLike, Change, Quiet, Making, Rendering, Discarding, Finishing, Leaving, Closing, IsQuiet, changed_here, entry_changes, is_captured, others_unchanged}
use Rattle.seq_model.proofs.Handles.{IsRising, changed_rises, changed, lives, rises, root_of, step_rises, step_state, swept_objects}
use Rattle.seq_model.proofs.Keys.{at, at_append, at_filter, at_map, key_is}
use Rattle.seq_model.specs.Histories.{History, rendered}
use Rattle.seq_model.specs.State.{Object, Phase, Empty, Flight, Done, State, changed_at, object_at, with_object}
use Rattle.seq_model.specs.Steps.{Past, after, discard, end_flight, end_flights, next_place, set_phase, step, stop, swept}
use Rattle.seq_model.specs.declared.calls.Entry.{Entry}
use Rattle.seq_model.specs.declared.calls.Entry.TheVariants.{Finished}

-- what one entry makes of the phase of object k
pub data PhaseStep (place : ℕ) (e : Entry) (k : ℕ) (old new : Phase) : Type 0 where
  Kept : new ≡ old → PhaseStep place e k old new
  Emptied : new ≡ Empty → PhaseStep place e k old new
  Started : rendered e ≡ Some k → new ≡ Flight place → PhaseStep place e k old new
  Ended : (u : ℕ) → e ≡ Finished u → old ≡ Flight u → new ≡ Done u → PhaseStep place e k old new

pub data ComesFrom (place : ℕ) (e : Entry) (s : State) (k : ℕ) (o : Object) : Type 0 where
  IsNew : k ≡ s.next → o.phase ≡ Empty → ComesFrom place e s k o
  Was : (p : Object) → object_at s k ≡ Some p → o.kind ≡ p.kind → is_captured o ≡ is_captured p → PhaseStep place e k p.phase o.phase → ComesFrom place e s k o

like_back : (place : ℕ) (e : Entry) (s : State) (k : ℕ) (o : Object) (p q : Option Object) → object_at s k ≡ p → q ≡ Some o → AreLike p q → ComesFrom place e s k o
like_back place e s k o None None was is like = absurd cc
like_back place e s k o (Some p) None was is like = absurd cc
like_back place e s k o None (Some q) was is like = absurd like
like_back place e s k o (Some p) (Some q) was is like =
    let same : q ≡ o = cc in
    subst (ComesFrom place e s k) same (Was p was like.kind like.captured (Kept like.phase))

quiet_back : (place : ℕ) (e : Entry) (s t : State) (k : ℕ) (o : Object) → IsQuiet s t → object_at t k ≡ Some o → ComesFrom place e s k o
quiet_back place e s t k o quiet found = like_back place e s k o (object_at s k) (object_at t k) refl found (quiet.like k)

-- an object is the new one or an old one
pub added : (o : Object) (u : State) (k : ℕ) (p : Object) → object_at (with_object o u) k ≡ Some p → (object_at u k ≡ Some p) ⊎ ((k ≡ u.next) × (p ≡ o))
added o u k p found = by (object_at u k) refl
  where
    last : at k ((u.next, o) ∷ []) ≡ Some p → (k ≡ u.next) × (p ≡ o)
    last is = of (is_at (nat_cmp k) u.next) refl
      where
        of : (t : Bool) → is_at (nat_cmp k) u.next ≡ t → (k ≡ u.next) × (p ≡ o)
        of true test = let value : Some o ≡ Some p = rw test at is in (key_is k u.next test, cc)
        of false test = let none : None ≡ Some p = rw test at is in absurd cc

    by : (x : Option Object) → object_at u k ≡ x → (object_at u k ≡ Some p) ⊎ ((k ≡ u.next) × (p ≡ o))
    by (Some q) is =
        let both : option_or (object_at u k) (at k ((u.next, o) ∷ [])) ≡ Some p = sym (at_append k u.objects ((u.next, o) ∷ [])) ∙ found in
        let value : Some q ≡ Some p = rw is at both in inl (is ∙ value)
    by None is =
        let both : option_or (object_at u k) (at k ((u.next, o) ∷ [])) ≡ Some p = sym (at_append k u.objects ((u.next, o) ∷ [])) ∙ found in
        let value : at k ((u.next, o) ∷ []) ≡ Some p = rw is at both in inr (last value)

made_back : (place : ℕ) (e : Entry) (s u : State) (k : ℕ) (o p : Object) → IsQuiet s u → o.phase ≡ Empty → object_at (with_object o u) k ≡ Some p → ComesFrom place e s k p
made_back place e s u k o p quiet empty found = by (added o u k p found)
  where
    by : (object_at u k ≡ Some p) ⊎ ((k ≡ u.next) × (p ≡ o)) → ComesFrom place e s k p
    by (inl old) = quiet_back place e s u k p quiet old
    by (inr new) = IsNew (new.0 ∙ quiet.next) (ap (λ (x : Object). x.phase) new.1 ∙ empty)

-- a phase that is set
set_back : (place : ℕ) (e : Entry) (s : State) (h k : ℕ) (phase : Phase) (o : Object) → ((old : Phase) → PhaseStep place e h old phase) →
    object_at (changed_at h (set_phase phase) s) k ≡ Some o → ComesFrom place e s k o
set_back place e s h k phase o sets found = by (cases_eq k h)
  where
    here : (x : Option Object) → object_at s h ≡ x → option_map (set_phase phase) x ≡ Some o → ComesFrom place e s h o
    here None was is = absurd cc
    here (Some p) was is = let same : set_phase phase p ≡ o = cc in subst (ComesFrom place e s h) same (Was p was refl refl (sets p.phase))

    by : (k ≡ h) ⊎ (k ≡ h → ⊥) → ComesFrom place e s k o
    by (inl same) =
        subst (λ k. ComesFrom place e s k o) (sym same) (here (object_at s h) refl (sym (changed_here h (set_phase phase) s) ∙ subst (λ k. object_at (changed_at h (set_phase phase) s) k ≡ Some o) same found))
    by (inr apart) = Was o (sym (others_unchanged h k (set_phase phase) s apart) ∙ found) refl refl (Kept refl)

pub stop_objects : (phase : Phase) (s : State) → (stop phase s).objects ≡ s.objects
stop_objects (Flight t) s = refl
stop_objects Empty s = refl
stop_objects (Done t) s = refl

discarded_back : (place : ℕ) (e : Entry) (s : State) (h k : ℕ) (o : Object) → object_at (discard h s) k ≡ Some o → ComesFrom place e s k o
unfolding discard
discarded_back place e s h k o found =
    set_back place e s h k Empty o (λ old. Emptied refl)
    (subst (λ es. at k es ≡ Some o) (stop_objects _ (changed_at h (set_phase Empty) s)) found)

-- a flight that ends, and the others
pub end_is : (u : ℕ) (phase : Phase) (o : Object) → (end_flight u phase o ≡ o) ⊎ ((o.phase ≡ Flight u) × (end_flight u phase o ≡ set_phase phase o))
unfolding end_flight
end_is u phase o = by o.phase refl
  where
    by : (old : Phase) → o.phase ≡ old → (end_flight u phase o ≡ o) ⊎ ((o.phase ≡ Flight u) × (end_flight u phase o ≡ set_phase phase o))
    by Empty is = inl (rw is refl)
    by (Done v) is = inl (rw is refl)
    by (Flight v) is = flown (v == u) refl
      where
        flown : (t : Bool) → (v == u) ≡ t → (end_flight u phase o ≡ o) ⊎ ((o.phase ≡ Flight u) × (end_flight u phase o ≡ set_phase phase o))
        flown true test = inr (is ∙ ap Flight (eqb-true v u test), (rw is (rw test refl)))
        flown false test = inl (rw is (rw test refl))

ended_back : (place : ℕ) (e : Entry) (s : State) (u k : ℕ) (phase : Phase) (o : Object) →
    ((old : Phase) → old ≡ Flight u → PhaseStep place e k old phase) → object_at (end_flights u phase s) k ≡ Some o → ComesFrom place e s k o
unfolding end_flights
ended_back place e s u k phase o ends found =
    from (object_at s k) refl (sym (at_map (end_flight u phase) k s.objects) ∙ found)
  where
    of : (p : Object) → object_at s k ≡ Some p → (end_flight u phase p ≡ p) ⊎ ((p.phase ≡ Flight u) × (end_flight u phase p ≡ set_phase phase p)) → ComesFrom place e s k (end_flight u phase p)
    of p was (inl same) = subst (ComesFrom place e s k) (sym same) (Was p was refl refl (Kept refl))
    of p was (inr ended) = subst (ComesFrom place e s k) (sym ended.1) (Was p was refl refl (ends p.phase ended.0))

    from : (x : Option Object) → object_at s k ≡ x → option_map (end_flight u phase) x ≡ Some o → ComesFrom place e s k o
    from None was is = absurd cc
    from (Some p) was is = let same : end_flight u phase p ≡ o = cc in subst (ComesFrom place e s k) same (of p was (end_is u phase p))

pub change_back : (place : ℕ) (e : Entry) (s t : State) → Change place e s t → (k : ℕ) (o : Object) → object_at t k ≡ Some o → ComesFrom place e s k o
change_back place e s t (Quiet shows takes quiet) k o found = quiet_back place e s t k o quiet found
change_back place e s t (Making p u shows takes phase quiet is) k o found = made_back place e s u k p o quiet phase (ap (λ t. object_at t k) (sym is) ∙ found)
change_back place e s t (Rendering h shows takes is) k o found =
    set_back place e s h k (Flight place) o (λ old. Started shows refl) (ap (λ t. object_at t k) (sym is) ∙ found)
change_back place e s t (Discarding h shows takes is) k o found = discarded_back place e s h k o (ap (λ t. object_at t k) (sym is) ∙ found)
change_back place e s t (Finishing u entry is) k o found = ended_back place e s u k (Done u) o (λ old was. Ended u entry was refl) (ap (λ t. object_at t k) (sym is) ∙ found)
change_back place e s t (Leaving u entry is) k o found = ended_back place e s u k Empty o (λ old was. Emptied refl) (ap (λ t. object_at t k) (sym is) ∙ found)
change_back place e s t (Closing entry is) k o found = let none : None ≡ Some o = ap (λ t. object_at t k) (sym is) ∙ found in absurd cc

-- what the sweep leaves was there
pub filtered : {X : Type 0} (p : X → Bool) (x : Option X) (v : X) → option_filter p x ≡ Some v → (x ≡ Some v) × (p v ≡ true)
filtered p None v is = absurd cc
filtered {X} p (Some w) v is = by (p w) refl
  where
    by : (t : Bool) → p w ≡ t → (Some w ≡ Some v) × (p v ≡ true)
    by true test = let same : Some w ≡ Some v = rw test at is in (same, (let value : w ≡ v = cc in ap p (sym value) ∙ test))
    by false test = let none : None ≡ Some v = rw test at is in absurd cc

pub swept_was : (past : Past) (s : State) (k : ℕ) (o : Object) → IsRising s → object_at (swept past.seen past.reached s) k ≡ Some o →
    (object_at s k ≡ Some o) × (lives (root_of past s) s.objects (k, o) ≡ true)
swept_was past s k o rising found =
    filtered (λ v. lives (root_of past s) s.objects (k, v)) (object_at s k) o
    (sym (at_filter (lives (root_of past s) s.objects) k 1 s.next s.objects rising) ∙ ap (at k) (sym (swept_objects past s)) ∙ found)

pub step_back : (past : Past) (e : Entry) (k : ℕ) (o : Object) → IsRising past.state → object_at (step past e).state k ≡ Some o → ComesFrom (next_place past) e past.state k o
step_back past e k o rising found =
    let changes : Change (next_place past) e past.state (changed past e) = entry_changes (next_place past) e past.state in
    change_back (next_place past) e past.state (changed past e) changes k o
    (swept_was (step past e) (changed past e) k o (changed_rises past e rising).0 (ap (λ s. object_at s k) (sym (step_state past e)) ∙ found)).0

-- a handle that was used, with nothing at it, stays so
pub stays_gone : (past : Past) (e : Entry) (h : ℕ) → IsRising past.state → h < past.state.next → object_at past.state h ≡ None → object_at (step past e).state h ≡ None
stays_gone past e h rising used gone = by (object_at (step past e).state h) refl
  where
    from : (o : Object) → ComesFrom (next_place past) e past.state h o → ⊥
    from o (IsNew new phase) = omega (arith, used, new)
    from o (Was p was kind takes phase) = cc

    by : (x : Option Object) → object_at (step past e).state h ≡ x → x ≡ None
    by None is = refl
    by (Some o) is = absurd (from o (step_back past e h o rising is))

pub gone_for_good : (history further : History) (h : ℕ) → h < (after history).state.next → object_at (after history).state h ≡ None →
    object_at (after (history ++ further)).state h ≡ None
gone_for_good history further h used gone =
    subst (λ (past : Past). object_at past.state h ≡ None) (sym (after_both history further))
    (keeps_by (λ past. IsRising past.state × (h < past.state.next) × (object_at past.state h ≡ None))
    (λ past e now.
    let one : IsRising (step past e).state × (past.state.next ≤ (step past e).state.next) = step_rises past e now.0 in
    (one.0, omega (arith, now.1, one.1), stays_gone past e h now.0 now.1 now.2))
    (after history) further (rises history, used, gone)).2
