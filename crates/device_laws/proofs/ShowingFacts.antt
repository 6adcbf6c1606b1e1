-- What an object shows after an entry.
use Rattle.std.proofs.Common.{ℕ, ◌+◌, ◌==◌, ◌≡◌, ◌∙◌, ◌⊎◌, inl, inr, not, Bool, true, false, List, [], ◌∷◌, ◌++◌, Option, Some, None, length, refl, sym, ap, subst, arith}
use Rattle.std.specs.Prelude.{cond}
use Rattle.std.specs.List.{filter}
use Rattle.std.specs.Option.{is_some, option_and_then, option_map, option_map_or, unwrap_or}
use Rattle.std.proofs.lemmas.Bool.{cases_eq, eq-eqb, eqb-true}
use Rattle.dev_types.specs.declared.data_types.DataType.TheVariants as ty
use Rattle.dev_types.specs.declared.handles.Origin.TheVariants.{Managed}
use Rattle.dev_types.specs.declared.values.Value.TheVariants as value
use Rattle.kind_tables.specs.Kinds.{kind_of}
use Rattle.kind_tables.specs.SceneObjects.{with_value, without_value}
use Rattle.kind_tables.specs.declared.kinds.Kind.{Kind}
use Rattle.kind_tables.specs.declared.kinds.Kind.TheVariants.{Array}
use Rattle.seq_model.proofs.Afters.{after_more}
use Rattle.seq_model.proofs.Came.{added, stop_objects, swept_was}
use Rattle.seq_model.proofs.Changes.{changed_here, others_unchanged}
use Rattle.seq_model.proofs.Handles.{IsRising, changed, changed_rises, rises, step_state}
use Rattle.seq_model.proofs.Keys.{at, at_map, nothing_outside}
use Rattle.seq_model.proofs.Sweeps.{place_after}
use Rattle.seq_model.specs.Histories.{History}
use Rattle.seq_model.specs.State.{Object, ParameterLoan, Phase, Empty, Flight, Done, State, changed_at, content_of_loan, is_in_flight, object_at, parameter_loan, with_object}
use Rattle.seq_model.specs.Steps.{Past, after, change, change_array, commit, discard, effect, end_flight, end_flights, end_parameter_loan, fresh, fresh_array, holding, lend_parameter, lent, map_channel, next_place, set_phase, set_staged, step, take_in, unmap_channel, unmap_parameter}
use Rattle.seq_model.specs.declared.calls.Call.{Call}
use Rattle.seq_model.specs.declared.calls.Call.TheVariants.{NewObject, NewArray, Retain, SetParameter, UnsetParameter, UnsetAll, Commit, MapArray, UnmapArray, MapParameterArray, UnmapParameterArray, RenderFrame, DiscardFrame, MapFrame, UnmapFrame}
use Rattle.seq_model.specs.declared.calls.Entry.{Entry}
use Rattle.seq_model.specs.declared.calls.Entry.TheVariants.{Called, Finished, Left, Closed}
use Rattle.seq_model.specs.declared.calls.Reply.{Reply}
use Rattle.seq_model.specs.declared.calls.Reply.TheVariants as reply
use Rattle.device_laws.specs.Showings.{Showing, flight_ends, nothing_shown, showing_after, showing_at, showing_of, with_channels, with_phase}

-- what is there now shows what f makes of what was shown
abbrev pub Makes : ℕ → (Showing → Showing) → State → State → Type 0
Makes h f s t = (p : Object) → object_at t h ≡ Some p → showing_of p ≡ f (showing_at s h)

-- where an object is what g made of it
of_object : (h : ℕ) (f : Showing → Showing) (g : Object → Object) (s t : State) → ((o : Object) → showing_of (g o) ≡ f (showing_of o)) → object_at t h ≡ option_map g (object_at s h) → Makes h f s t
of_object h f g s t makes now p found = by (object_at s h) refl (sym now ∙ found)
  where
    by : (x : Option Object) → object_at s h ≡ x → option_map g x ≡ Some p → showing_of p ≡ f (option_map_or showing_of (object_at s h) nothing_shown)
    by None none is = absurd cc
    by (Some o) some is =
        let same : g o ≡ p = cc in
        ap showing_of (sym same) ∙ makes o ∙ ap (λ x. f (option_map_or showing_of x nothing_shown)) (sym some)

keeps_all : (h : ℕ) (s t : State) → object_at t h ≡ object_at s h → Makes h (λ x. x) s t
keeps_all h s t same = of_object h (λ x. x) (λ o. o) s t (λ o. refl) (same ∙ of (object_at s h))
  where
    of : (x : Option Object) → x ≡ option_map (λ o. o) x
    of None = refl
    of (Some o) = refl

-- where the object k was changed
changed_makes : (h k : ℕ) (f : Showing → Showing) (g : Object → Object) (s : State) → ((o : Object) → showing_of (g o) ≡ f (showing_of o)) → Makes h (λ x. cond (k == h) (f x) x) s (changed_at k g s)
changed_makes h k f g s makes = by (k == h) refl (cases_eq h k)
  where
    by : (b : Bool) → (k == h) ≡ b → (h ≡ k) ⊎ (h ≡ k → ⊥) → Makes h (λ x. cond b (f x) x) s (changed_at k g s)
    by true is other =
        let same : k ≡ h = eqb-true k h is in
        subst (λ k. Makes h f s (changed_at k g s)) (sym same) (of_object h f g s (changed_at h g s) makes (changed_here h g s))
    by false is (inl same) = let wrong : (k == h) ≡ true = eq-eqb k h (sym same) in absurd cc
    by false is (inr apart) = keeps_all h s (changed_at k g s) (others_unchanged k h g s apart)

-- and where that shows the same
quietly : (h k : ℕ) (g : Object → Object) (s : State) → ((o : Object) → showing_of (g o) ≡ showing_of o) → Makes h (λ x. x) s (changed_at k g s)
quietly h k g s same = by (cases_eq h k)
  where
    by : (h ≡ k) ⊎ (h ≡ k → ⊥) → Makes h (λ x. x) s (changed_at k g s)
    by (inl is) = of_object h (λ x. x) g s (changed_at k g s) same (subst (λ k. object_at (changed_at k g s) h ≡ option_map g (object_at s h)) is (changed_here h g s))
    by (inr apart) = keeps_all h s (changed_at k g s) (others_unchanged k h g s apart)

-- a new object shows nothing
made_makes : (h : ℕ) (o : Object) (s u : State) → IsRising s → showing_of o ≡ nothing_shown → u.next ≡ s.next → Makes h (λ x. x) s u → Makes h (λ x. x) s (with_object o u)
made_makes h o s u rising fresh_ same makes p found = by (added o u h p found)
  where
    none : h ≡ s.next → object_at s h ≡ None
    none is = nothing_outside h 1 s.next s.objects rising (λ low high. omega (arith, high, is))

    by : (object_at u h ≡ Some p) ⊎ ((h ≡ u.next) × (p ≡ o)) → showing_of p ≡ showing_at s h
    by (inl was) = makes p was
    by (inr new) = ap showing_of new.1 ∙ fresh_ ∙ ap (λ x. option_map_or showing_of x nothing_shown) (sym (none (new.0 ∙ same)))

made_of : (h : ℕ) (s : State) (kind : Option Kind) → IsRising s → Makes h (λ x. x) s (unwrap_or (option_map (λ kind. with_object (fresh kind None) s) kind) s)
made_of h s None rising = keeps_all h s s refl
made_of h s (Some kind) rising = made_makes h (fresh kind None) s s rising refl refl (keeps_all h s s refl)

both_make : (h : ℕ) (s t u : State) → Makes h (λ x. x) s t → ((p : Object) → object_at t h ≡ Some p → (q : Object) → object_at u h ≡ Some q → showing_of q ≡ showing_of p) →
    (object_at t h ≡ None → object_at u h ≡ None) → Makes h (λ x. x) s u
both_make h s t u first second none p found = by (object_at t h) refl
  where
    by : (x : Option Object) → object_at t h ≡ x → showing_of p ≡ showing_at s h
    by None is = let wrong : None ≡ Some p = sym (none is) ∙ found in absurd cc
    by (Some o) is = second o is p found ∙ first o is

-- two changes that show the same
quiet_twice : (h k j : ℕ) (f g : Object → Object) (s : State) → ((o : Object) → showing_of (f o) ≡ showing_of o) → ((o : Object) → showing_of (g o) ≡ showing_of o) → Makes h (λ x. x) s (changed_at j g (changed_at k f s))
quiet_twice h k j f g s first second p found = quietly h j g (changed_at k f s) second p found ∙ by (object_at (changed_at k f s) h) refl
  where
    gone : (o : Object) → object_at s h ≡ Some o → object_at (changed_at k f s) h ≡ None → ⊥
    gone o there none = of (cases_eq h k)
      where
        of : (h ≡ k) ⊎ (h ≡ k → ⊥) → ⊥
        of (inl same) =
            let now : object_at (changed_at k f s) h ≡ Some (f o) = subst (λ k. object_at (changed_at k f s) h ≡ Some (f o)) same (changed_here h f s ∙ ap (option_map f) there) in absurd cc
        of (inr apart) = let now : object_at (changed_at k f s) h ≡ Some o = others_unchanged k h f s apart ∙ there in absurd cc

    by : (x : Option Object) → object_at (changed_at k f s) h ≡ x → option_map_or showing_of (object_at (changed_at k f s) h) nothing_shown ≡ showing_at s h
    by (Some o) is = ap (λ x. option_map_or showing_of x nothing_shown) is ∙ quietly h k f s first o is
    by None is = of (object_at s h) refl
      where
        of : (y : Option Object) → object_at s h ≡ y → option_map_or showing_of (object_at (changed_at k f s) h) nothing_shown ≡ option_map_or showing_of (object_at s h) nothing_shown
        of None was = ap (λ x. option_map_or showing_of x nothing_shown) (is ∙ sym was)
        of (Some o) was = absurd (gone o was is)

taken_makes : (h k : ℕ) (name bytes : List ℕ) (s : State) (loan : Option ParameterLoan) → IsRising s → Makes h (λ x. x) s (option_map_or (λ loan. take_in k name bytes loan s) loan s)
unfolding take_in
taken_makes h k name bytes s None rising = keeps_all h s s refl
taken_makes h k name bytes s (Some loan) rising =
    made_makes h (fresh (Array loan.elem) (Some (record { block = content_of_loan loan bytes; origin = Managed; loan = None }))) s
    (changed_at k (set_staged (with_value name (value.Object ty.Array1D s.next))) (changed_at k (end_parameter_loan loan.number) s)) rising refl refl
    (quiet_twice h k k (end_parameter_loan loan.number) (set_staged (with_value name (value.Object ty.Array1D s.next))) s (λ o. refl) (λ o. refl))

discard_makes : (h k : ℕ) (s : State) → Makes h (λ x. cond (k == h) (with_phase Empty x) x) s (discard k s)
unfolding discard
discard_makes h k s p found =
    changed_makes h k (with_phase Empty) (set_phase Empty) s (λ o. refl) p (ap (at h) (sym (stop_objects (option_map_or (λ o. o.phase) (object_at s k) Empty) (changed_at k (set_phase Empty) s))) ∙ found)

end_shows : (t : ℕ) (phase : Phase) (o : Object) → showing_of (end_flight t phase o) ≡ flight_ends t phase (showing_of o)
unfolding end_flight
end_shows t phase o = by (is_in_flight t o)
  where
    by : (b : Bool) → showing_of (cond b (set_phase phase o) o) ≡ cond b (with_phase phase (showing_of o)) (showing_of o)
    by true = refl
    by false = refl

ended_makes : (h t : ℕ) (phase : Phase) (s : State) → Makes h (flight_ends t phase) s (end_flights t phase s)
unfolding end_flights
ended_makes h t phase s = of_object h (flight_ends t phase) (end_flight t phase) s (end_flights t phase s) (end_shows t phase) (at_map (end_flight t phase) h s.objects)

call_makes : (place actor h : ℕ) (call : Call) (r : Reply) (s : State) → IsRising s → Makes h (showing_after place (Called actor call r) h) s (effect place call r s)
unfolding effect unmap_parameter
call_makes place actor h (NewObject t subtype) (reply.Made made) s rising = made_of h s (kind_of t subtype) rising
call_makes place actor h (NewArray elem count stride origin bytes) (reply.Made made) s rising =
    made_makes h (fresh_array elem count stride origin bytes) s s rising refl refl (keeps_all h s s refl)
call_makes place actor h (SetParameter k name v) reply.Done s rising = quietly h k (set_staged (with_value name v)) s (λ o. refl)
call_makes place actor h (UnsetParameter k name) reply.Done s rising = quietly h k (set_staged (without_value name)) s (λ o. refl)
call_makes place actor h (UnsetAll k) reply.Done s rising = quietly h k (set_staged (λ _. [])) s (λ o. refl)
call_makes place actor h (Commit k) reply.Done s rising = quietly h k commit s (λ o. refl)
call_makes place actor h (MapArray k) (reply.Lent number) s rising = quietly h k (change_array (lent place)) s (λ o. refl)
call_makes place actor h (UnmapArray k number bytes) reply.Done s rising = quietly h k (change_array (holding bytes)) s (λ o. refl)
call_makes place actor h (MapParameterArray k name elem count) (reply.Lent number) s rising =
    quietly h k (lend_parameter (record { number = place; name = name; elem = elem; count = count })) s (λ o. refl)
call_makes place actor h (UnmapParameterArray k name number bytes) (reply.Made made) s rising =
    taken_makes h k name bytes s (option_and_then (λ o. parameter_loan number o.parameter_loans) (object_at s k)) rising
call_makes place actor h (RenderFrame k) reply.Done s rising = changed_makes h k (with_phase (Flight place)) (set_phase (Flight place)) s (λ o. refl)
call_makes place actor h (DiscardFrame k) reply.Done s rising = discard_makes h k s
call_makes place actor h (MapFrame k channel) (reply.Mapped width height kind rows) s rising =
    changed_makes h k (with_channels (λ ms. ms ++ (channel, place) ∷ [])) (map_channel channel place) s (λ o. refl)
call_makes place actor h (UnmapFrame k number) reply.Done s rising =
    changed_makes h k (with_channels (λ ms. filter (λ m. not (m.1 == number)) ms)) (unmap_channel number) s (λ o. refl)
call_makes place actor h (Retain k) r s rising = keeps_all h s s refl
call_makes place actor h _ _ s rising = keeps_all h s s refl

pub entry_makes : (place h : ℕ) (e : Entry) (s : State) → IsRising s → Makes h (showing_after place e h) s (change place e s)
unfolding change
entry_makes place h (Called actor call r) s rising = call_makes place actor h call r s rising
entry_makes place h (Finished t) s rising = ended_makes h t (Done t) s
entry_makes place h (Left t) s rising = ended_makes h t Empty s
entry_makes place h Closed s rising = λ p found. absurd cc

pub shows_after : (history : History) (e : Entry) (h : ℕ) → is_some (object_at (after (history ++ e ∷ [])).state h) ≡ true →
    showing_at (after (history ++ e ∷ [])).state h ≡ showing_after (length history + 1) e h (showing_at (after history).state h)
shows_after history e h there = by (object_at (after (history ++ e ∷ [])).state h) refl there
  where
    by : (x : Option Object) → object_at (after (history ++ e ∷ [])).state h ≡ x → is_some x ≡ true →
        option_map_or showing_of (object_at (after (history ++ e ∷ [])).state h) nothing_shown ≡ showing_after (length history + 1) e h (showing_at (after history).state h)
    by None none is = absurd cc
    by (Some p) some is =
        ap (λ x. option_map_or showing_of x nothing_shown) some
        ∙ subst (λ place. showing_of p ≡ showing_after place e h (showing_at (after history).state h)) (place_after history)
        (entry_makes (next_place (after history)) h e (after history).state (rises history) p
        (swept_was (step (after history) e) (changed (after history) e) h p (changed_rises (after history) e (rises history)).0
        (ap (λ s. object_at s h) (sym (step_state (after history) e)) ∙ ap (λ (past : Past). object_at past.state h) (sym (after_more history e)) ∙ some)).0)
