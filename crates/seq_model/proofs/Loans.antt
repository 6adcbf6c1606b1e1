-- The numbers of the loans of an object: places of the past, each once.
use Rattle.std.proofs.Common.{ℕ, ◌+◌, ◌==◌, ◌≡◌, ◌≤◌, ◌∙◌, ◌⊎◌, inl, inr, Bool, true, false, not, List, [], ◌∷◌, ◌++◌, Option, Some, None, map, refl, sym, ap, subst, length, arith, length-append}
use Rattle.std.specs.Prelude.{cond}
use Rattle.std.specs.List.{filter}
use Rattle.std.specs.Option.{option_and_then, option_map, option_map_or, unwrap_or}
use Rattle.std.proofs.lemmas.Bool.{cases_eq}
use Rattle.dev_types.specs.declared.data_types.DataType.TheVariants as ty
use Rattle.dev_types.specs.declared.handles.Channel.{Channel}
use Rattle.dev_types.specs.declared.handles.Origin.TheVariants.{Managed}
use Rattle.dev_types.specs.declared.values.Value.TheVariants as value
use Rattle.kind_tables.specs.Kinds.{kind_of}
use Rattle.kind_tables.specs.declared.kinds.Kind.{Kind}
use Rattle.kind_tables.specs.declared.kinds.Kind.TheVariants.{Array}
use Rattle.seq_model.proofs.Afters.{after_more, grows_by}
use Rattle.seq_model.proofs.Came.{added, end_is, swept_was}
use Rattle.seq_model.proofs.Changes.{changed_here, others_unchanged}
use Rattle.seq_model.proofs.Handles.{changed_rises, changed, rises, step_state}
use Rattle.seq_model.proofs.Keys.{RisesWithin, at, at_map, rises_from_lower, rises_to_higher, rises_with_next}
use Rattle.seq_model.proofs.Sweeps.{place_after}
use Rattle.seq_model.specs.Histories.{History}
use Rattle.seq_model.specs.State.{ArrayState, Object, ParameterLoan, Phase, Empty, Flight, Done, State, changed_at, content_of_loan, object_at, parameter_loan, with_object}
use Rattle.seq_model.specs.Steps.{Past, after, change, change_array, commit, discard, effect, end_flight, end_flights, end_parameter_loan, fresh, fresh_array, holding, lend_parameter, lent, map_channel, set_phase, set_staged, step, stop, take_in, unmap_channel, unmap_parameter}
use Rattle.seq_model.specs.declared.calls.Call.{Call}
use Rattle.seq_model.specs.declared.calls.Call.TheVariants.{NewObject, NewArray, SetParameter, UnsetParameter, UnsetAll, Commit, MapArray, UnmapArray, MapParameterArray, UnmapParameterArray, RenderFrame, DiscardFrame, MapFrame, UnmapFrame}
use Rattle.seq_model.specs.declared.calls.Entry.{Entry}
use Rattle.seq_model.specs.declared.calls.Entry.TheVariants.{Called, Finished, Left, Closed}
use Rattle.seq_model.specs.declared.calls.Reply.{Reply}
use Rattle.seq_model.specs.declared.calls.Reply.TheVariants as reply
use Rattle.kind_tables.specs.SceneObjects.{with_value, without_value}

-- the numbers of the arrays that are written for an object's parameters, and of its channels
abbrev pub parameter_numbers : Object → List ℕ
parameter_numbers o = map (λ (loan : ParameterLoan). loan.number) o.parameter_loans

abbrev pub channel_numbers : Object → List ℕ
channel_numbers o = map (λ (m : Channel × ℕ). m.1) o.channels

-- they are of places before this one, and rise
pub record HasEarlierLoans (place : ℕ) (o : Object) : Type 0 where
  pub parameters : RisesWithin 1 place (parameter_numbers o)
  pub channels : RisesWithin 1 place (channel_numbers o)

-- what holds of each object
abbrev pub Each : (ℕ → Object → Type 0) → State → Type 0
Each P s = (h : ℕ) (o : Object) → object_at s h ≡ Some o → P h o

module _ (P Q : ℕ → Object → Type 0) (weaker : (h : ℕ) (o : Object) → P h o → Q h o) where
  pub each_changed : (h : ℕ) (f : Object → Object) (s : State) → ((o : Object) → P h o → Q h (f o)) → Each P s → Each Q (changed_at h f s)
  each_changed h f s stays all k p found = by (cases_eq k h)
    where
      here : (x : Option Object) → object_at s h ≡ x → option_map f x ≡ Some p → Q h p
      here None was is = absurd cc
      here (Some o) was is = let value : f o ≡ p = cc in subst (Q h) value (stays o (all h o was))

      by : (k ≡ h) ⊎ (k ≡ h → ⊥) → Q k p
      by (inl at_h) = subst (λ k. Q k p) (sym at_h) (here (object_at s h) refl (sym (changed_here h f s) ∙ ap (object_at (changed_at h f s)) (sym at_h) ∙ found))
      by (inr apart) = weaker k p (all k p (sym (others_unchanged h k f s apart) ∙ found))

  pub each_new : (o : Object) (s : State) → ((h : ℕ) → Q h o) → Each P s → Each Q (with_object o s)
  each_new o s now all k p found = by (added o s k p found)
    where
      by : (object_at s k ≡ Some p) ⊎ ((k ≡ s.next) × (p ≡ o)) → Q k p
      by (inl old) = weaker k p (all k p old)
      by (inr new) = subst (Q k) (sym new.1) (now k)

  pub each_stays : (s : State) → Each P s → Each Q s
  each_stays s all k p found = weaker k p (all k p found)

  pub each_ended : (u : ℕ) (phase : Phase) (left : List ℕ) (s : State) → ((h : ℕ) (o : Object) → P h o → Q h (set_phase phase o)) → Each P s → Each Q (record (end_flights u phase s) { stopped = left })
  unfolding end_flights
  each_ended u phase left s stays all k p found = from (object_at s k) refl (sym (at_map (end_flight u phase) k s.objects) ∙ found)
    where
      of : (o : Object) → P k o → (end_flight u phase o ≡ o) ⊎ ((o.phase ≡ Flight u) × (end_flight u phase o ≡ set_phase phase o)) → Q k (end_flight u phase o)
      of o now (inl same) = subst (Q k) (sym same) (weaker k o now)
      of o now (inr ended) = subst (Q k) (sym ended.1) (stays k o now)

      from : (x : Option Object) → object_at s k ≡ x → option_map (end_flight u phase) x ≡ Some p → Q k p
      from None was is = absurd cc
      from (Some o) was is = let value : end_flight u phase o ≡ p = cc in subst (Q k) value (of o (all k o was) (end_is u phase o))

  pub each_discarded : (h : ℕ) (s : State) → ((o : Object) → P h o → Q h (set_phase Empty o)) → Each P s → Each Q (discard h s)
  unfolding discard
  each_discarded h s stays all k p found =
      each_changed h (set_phase Empty) s stays all k p (subst (λ es. at k es ≡ Some p) (objects (option_map_or (λ o. o.phase) (object_at s h) Empty)) found)
    where
      objects : (phase : Phase) → (stop phase (changed_at h (set_phase Empty) s)).objects ≡ (changed_at h (set_phase Empty) s).objects
      objects Empty = refl
      objects (Flight t) = refl
      objects (Done t) = refl

-- the loans of each object are earlier
abbrev pub Earlier : ℕ → ℕ → Object → Type 0
Earlier place h o = HasEarlierLoans place o

-- one more place
later : (place h : ℕ) (o : Object) → HasEarlierLoans place o → HasEarlierLoans (place + 1) o
later place h o now = record {
  parameters = rises_to_higher 1 place (place + 1) (parameter_numbers o) (omega arith) now.parameters;
  channels = rises_to_higher 1 place (place + 1) (channel_numbers o) (omega arith) now.channels;
}

fresh_loans : (place : ℕ) (kind : Kind) (array : Option ArrayState) → 1 ≤ place → HasEarlierLoans (place + 1) (fresh kind array)
fresh_loans place kind array first = record { parameters = omega (arith, first); channels = omega (arith, first) }

filtered_numbers : {X : Type 0} (number : X → ℕ) (p : X → Bool) (low high : ℕ) (xs : List X) → RisesWithin low high (map number xs) → RisesWithin low high (map number (filter p xs))
filtered_numbers number p low high [] rising = rising
filtered_numbers number p low high (x ∷ xs) rising = by (p x) (filtered_numbers number p (number x + 1) high xs rising.1)
  where
    by : (t : Bool) → RisesWithin (number x + 1) high (map number (filter p xs)) → RisesWithin low high (map number (cond t (x ∷ filter p xs) (filter p xs)))
    by true rest = (rising.0, rest)
    by false rest = rises_from_lower (number x + 1) low high (map number (filter p xs)) (omega (arith, rising.0)) rest

appended_number : {X : Type 0} (number : X → ℕ) (xs : List X) (x : X) → map number (xs ++ x ∷ []) ≡ map number xs ++ number x ∷ []
appended_number number [] x = refl
appended_number number (y ∷ xs) x = ap (λ ns. number y ∷ ns) (appended_number number xs x)

same_loans : (place : ℕ) (o p : Object) → p.parameter_loans ≡ o.parameter_loans → p.channels ≡ o.channels → HasEarlierLoans place o → HasEarlierLoans (place + 1) p
same_loans place o p parameters channels now = record {
  parameters = subst (λ loans. RisesWithin 1 (place + 1) (map (λ (loan : ParameterLoan). loan.number) loans)) (sym parameters) (later place 0 o now).parameters;
  channels = subst (λ ms. RisesWithin 1 (place + 1) (map (λ (m : Channel × ℕ). m.1) ms)) (sym channels) (later place 0 o now).channels;
}

taken_loans : (place h : ℕ) (name bytes : List ℕ) (s : State) (x : Option ParameterLoan) → 1 ≤ place → Each (Earlier place) s →
    Each (Earlier (place + 1)) (option_map_or (λ loan. take_in h name bytes loan s) x s)
unfolding take_in
taken_loans place h name bytes s None first all = each_stays (Earlier place) (Earlier (place + 1)) (later place) s all
taken_loans place h name bytes s (Some loan) first all =
    each_new (Earlier place) (Earlier (place + 1)) (later place)
    (fresh (Array loan.elem) (Some (record { block = content_of_loan loan bytes; origin = Managed; loan = None })))
    (changed_at h (set_staged (with_value name (value.Object ty.Array1D s.next))) (changed_at h (end_parameter_loan loan.number) s))
    (λ k. fresh_loans place (Array loan.elem) (Some (record { block = content_of_loan loan bytes; origin = Managed; loan = None })) first)
    (each_changed (Earlier place) (Earlier place) (λ h o now. now) h (set_staged (with_value name (value.Object ty.Array1D s.next))) (changed_at h (end_parameter_loan loan.number) s)
    (λ o now. record { parameters = now.parameters; channels = now.channels })
    (each_changed (Earlier place) (Earlier place) (λ h o now. now) h (end_parameter_loan loan.number) s
    (λ o now. record { parameters = filtered_numbers (λ (l : ParameterLoan). l.number) (λ l. not (l.number == loan.number)) 1 place o.parameter_loans now.parameters; channels = now.channels }) all))

made_loans : (place : ℕ) (s : State) (x : Option Kind) → 1 ≤ place → Each (Earlier place) s → Each (Earlier (place + 1)) (unwrap_or (option_map (λ kind. with_object (fresh kind None) s) x) s)
made_loans place s None first all = each_stays (Earlier place) (Earlier (place + 1)) (later place) s all
made_loans place s (Some kind) first all = each_new (Earlier place) (Earlier (place + 1)) (later place) (fresh kind None) s (λ k. fresh_loans place kind None first) all

call_loans : (place : ℕ) (call : Call) (r : Reply) (s : State) → 1 ≤ place → Each (Earlier place) s → Each (Earlier (place + 1)) (effect place call r s)
unfolding effect unmap_parameter
call_loans place (NewObject t subtype) (reply.Made made) s first all = made_loans place s (kind_of t subtype) first all
call_loans place (NewArray elem count stride origin bytes) (reply.Made made) s first all =
    each_new (Earlier place) (Earlier (place + 1)) (later place) (fresh_array elem count stride origin bytes) s (λ k. record { parameters = omega (arith, first); channels = omega (arith, first) }) all
call_loans place (SetParameter h name v) reply.Done s first all =
    each_changed (Earlier place) (Earlier (place + 1)) (later place) h (set_staged (with_value name v)) s (λ o now. same_loans place o (set_staged (with_value name v) o) refl refl now) all
call_loans place (UnsetParameter h name) reply.Done s first all =
    each_changed (Earlier place) (Earlier (place + 1)) (later place) h (set_staged (without_value name)) s (λ o now. same_loans place o (set_staged (without_value name) o) refl refl now) all
call_loans place (UnsetAll h) reply.Done s first all =
    each_changed (Earlier place) (Earlier (place + 1)) (later place) h (set_staged (λ _. [])) s (λ o now. same_loans place o (set_staged (λ _. []) o) refl refl now) all
call_loans place (Commit h) reply.Done s first all =
    each_changed (Earlier place) (Earlier (place + 1)) (later place) h commit s (λ o now. same_loans place o (commit o) refl refl now) all
call_loans place (MapArray h) (reply.Lent number) s first all =
    each_changed (Earlier place) (Earlier (place + 1)) (later place) h (change_array (lent place)) s (λ o now. same_loans place o (change_array (lent place) o) refl refl now) all
call_loans place (UnmapArray h number bytes) reply.Done s first all =
    each_changed (Earlier place) (Earlier (place + 1)) (later place) h (change_array (holding bytes)) s (λ o now. same_loans place o (change_array (holding bytes) o) refl refl now) all
call_loans place (MapParameterArray h name elem count) (reply.Lent number) s first all =
    each_changed (Earlier place) (Earlier (place + 1)) (later place) h (lend_parameter (record { number = place; name = name; elem = elem; count = count })) s
    (λ o now. record {
      parameters = subst (RisesWithin 1 (place + 1)) (sym (appended_number (λ (l : ParameterLoan). l.number) o.parameter_loans (record { number = place; name = name; elem = elem; count = count }))) (rises_with_next 1 place (parameter_numbers o) now.parameters);
      channels = (later place 0 o now).channels;
    }) all
call_loans place (UnmapParameterArray h name number bytes) (reply.Made made) s first all =
    taken_loans place h name bytes s (option_and_then (λ o. parameter_loan number o.parameter_loans) (object_at s h)) first all
call_loans place (RenderFrame h) reply.Done s first all =
    each_changed (Earlier place) (Earlier (place + 1)) (later place) h (set_phase (Flight place)) s (λ o now. same_loans place o (set_phase (Flight place) o) refl refl now) all
call_loans place (DiscardFrame h) reply.Done s first all =
    each_discarded (Earlier place) (Earlier (place + 1)) (later place) h s (λ o now. same_loans place o (set_phase Empty o) refl refl now) all
call_loans place (MapFrame h channel) (reply.Mapped width height kind rows) s first all =
    each_changed (Earlier place) (Earlier (place + 1)) (later place) h (map_channel channel place) s
    (λ o now. record {
      parameters = (later place 0 o now).parameters;
      channels = subst (RisesWithin 1 (place + 1)) (sym (appended_number (λ (m : Channel × ℕ). m.1) o.channels (channel, place))) (rises_with_next 1 place (channel_numbers o) now.channels);
    }) all
call_loans place (UnmapFrame h number) reply.Done s first all =
    each_changed (Earlier place) (Earlier (place + 1)) (later place) h (unmap_channel number) s
    (λ o now. record {
      parameters = (later place 0 o now).parameters;
      channels = filtered_numbers (λ (m : Channel × ℕ). m.1) (λ m. not (m.1 == number)) 1 (place + 1) o.channels (later place 0 o now).channels;
    }) all
call_loans place _ _ s first all = each_stays (Earlier place) (Earlier (place + 1)) (later place) s all

entry_loans : (place : ℕ) (e : Entry) (s : State) → 1 ≤ place → Each (Earlier place) s → Each (Earlier (place + 1)) (change place e s)
unfolding change
entry_loans place (Called actor call r) s first all = call_loans place call r s first all
entry_loans place (Finished u) s first all =
    each_ended (Earlier place) (Earlier (place + 1)) (later place) u (Done u) s.stopped s (λ k o now. same_loans place o (set_phase (Done u) o) refl refl now) all
entry_loans place (Left u) s first all =
    each_ended (Earlier place) (Earlier (place + 1)) (later place) u Empty (filter (λ v. not (v == u)) s.stopped) s (λ k o now. same_loans place o (set_phase Empty o) refl refl now) all
entry_loans place Closed s first all = λ k p found. absurd (let none : None ≡ Some p = found in cc)

loans_first : Each (Earlier (length {A = Entry} [] + 1)) (after []).state
unfolding after
loans_first k o found = absurd cc

pub loans_are_earlier : (history : History) → Each (Earlier (length history + 1)) (after history).state
loans_are_earlier history = grows_by (λ history. Each (Earlier (length history + 1)) (after history).state) loans_first more history
  where
    more : (history : History) (e : Entry) → Each (Earlier (length history + 1)) (after history).state → Each (Earlier (length (history ++ e ∷ []) + 1)) (after (history ++ e ∷ [])).state
    more history e now =
        subst (λ n. Each (Earlier (n + 1)) (after (history ++ e ∷ [])).state) (sym (length-append history (e ∷ [])))
        (subst (λ (past : Past). Each (Earlier (length history + 1 + 1)) past.state) (sym (after_more history e))
        (λ k o found. entry_loans (length history + 1) e (after history).state (omega arith) now k o
        (subst (λ n. object_at (change n e (after history).state) k ≡ Some o) (place_after history)
        (swept_was (step (after history) e) (changed (after history) e) k o (changed_rises (after history) e (rises history)).0
        (ap (λ s. object_at s k) (sym (step_state (after history) e)) ∙ found)).0)))
