-- What holds of each value that was set holds of all values of a state.
use Rattle.std.proofs.Common.{ℕ, ◌==◌, ◌≡◌, ◌∙◌, ◌⊎◌, inl, inr, true, false, not, List, [], ◌∷◌, ◌++◌, All, Option, Some, None, refl, sym, ap, subst}
use Rattle.std.specs.Prelude.{◌||◌}
use Rattle.std.specs.BTreeMap.{is_at}
use Rattle.std.specs.Cmp.Lexicographic.{slice_cmp}
use Rattle.std.specs.List.{filter}
use Rattle.std.specs.Option.{option_and_then, option_map, option_map_or, unwrap_or}
use Rattle.std.specs.Ordering.{nat_cmp}
use Rattle.std.proofs.lemmas.Bool.{cases_eq, not-false, or_parts}
use Rattle.std.proofs.lemmas.List.Elements.{All-nil}
use Rattle.dev_types.specs.ValueBytes.{is_well_typed}
use Rattle.dev_types.specs.declared.data_types.DataType.TheVariants as ty
use Rattle.dev_types.specs.declared.refusals.Refused.TheVariants.{BadType}
use Rattle.dev_types.specs.declared.values.Value.{Value}
use Rattle.dev_types.specs.declared.values.Value.TheVariants as value
use Rattle.kind_tables.specs.Kinds.{kind_of}
use Rattle.kind_tables.specs.SceneObjects.{with_value, without_value}
use Rattle.kind_tables.specs.declared.kinds.Kind.{Kind}
use Rattle.kind_tables.specs.declared.kinds.Kind.TheVariants.{Array}
use Rattle.seq_model.proofs.Came.{added, end_is, stop_objects, swept_was}
use Rattle.seq_model.proofs.Changes.{changed_here, others_unchanged}
use Rattle.seq_model.proofs.Granted.{AllNone, all_none, does_not_apply, given}
use Rattle.seq_model.proofs.Handles.{IsRising, changed, changed_rises, rises, step_state}
use Rattle.seq_model.proofs.Keys.{at, at_map}
use Rattle.seq_model.proofs.Prefixes.{legal_by}
use Rattle.seq_model.proofs.SoundSteps.{all_with_value, all_without}
use Rattle.seq_model.specs.Histories.{History}
use Rattle.seq_model.specs.Legal.{IsInPlace, Legal}
use Rattle.seq_model.specs.Refusals.{permits, refusal, refusals_of, refusals_of_set, row_at}
use Rattle.seq_model.specs.State.{ArrayState, Object, ParameterLoan, Phase, Empty, Flight, Done, State, changed_at, object_at, parameter_loan, with_object}
use Rattle.seq_model.specs.Steps.{Past, after, change, change_array, commit, discard, effect, end_flight, end_flights, end_parameter_loan, fresh, fresh_array, holding, lend_parameter, lent, map_channel, next_place, set_phase, set_staged, step, stop, swept, take_in, unmap_channel, unmap_parameter}
use Rattle.seq_model.specs.declared.calls.Call.{Call}
use Rattle.seq_model.specs.declared.calls.Call.TheVariants.{NewObject, NewArray, SetParameter, UnsetParameter, UnsetAll, Commit, MapArray, UnmapArray, MapParameterArray, UnmapParameterArray, RenderFrame, DiscardFrame, MapFrame, UnmapFrame}
use Rattle.seq_model.specs.declared.calls.Entry.{Entry}
use Rattle.seq_model.specs.declared.calls.Entry.TheVariants.{Called, Finished, Left, Closed}
use Rattle.seq_model.specs.declared.calls.Reply.{Reply}
use Rattle.seq_model.specs.declared.calls.Reply.TheVariants as reply

module _ (P : Value → Type 0) where
  abbrev Each : List (List ℕ × Value) → Type 0
  Each values = All (λ (entry : List ℕ × Value). P entry.1) values

  -- P holds of the values of an object, and of all objects
  pub record HasOnly (o : Object) : Type 0 where
    pub staged : Each o.staged
    pub committed : Each o.committed

  abbrev pub HaveOnly : State → Type 0
  HaveOnly s = (h : ℕ) (o : Object) → object_at s h ≡ Some o → HasOnly o

  none : Each []
  none = All-nil (λ (entry : List ℕ × Value). P entry.1)

  new_has : (kind : Kind) (array : Option ArrayState) → HasOnly (fresh kind array)
  new_has kind array = record { staged = none; committed = none }

  changed_have : (h : ℕ) (f : Object → Object) (s : State) → ((o : Object) → HasOnly o → HasOnly (f o)) → HaveOnly s → HaveOnly (changed_at h f s)
  changed_have h f s keeps all k o found = by (cases_eq k h)
    where
      here : (x : Option Object) → object_at s h ≡ x → option_map f x ≡ Some o → HasOnly o
      here None was is = absurd cc
      here (Some p) was is = let same : f p ≡ o = cc in subst HasOnly same (keeps p (all h p was))

      by : (k ≡ h) ⊎ (k ≡ h → ⊥) → HasOnly o
      by (inl same) = here (object_at s h) refl (sym (changed_here h f s) ∙ subst (λ k. object_at (changed_at h f s) k ≡ Some o) same found)
      by (inr apart) = all k o (sym (others_unchanged h k f s apart) ∙ found)

  added_have : (a : Object) (s : State) → HasOnly a → HaveOnly s → HaveOnly (with_object a s)
  added_have a s has all k o found = by (added a s k o found)
    where
      by : (object_at s k ≡ Some o) ⊎ ((k ≡ s.next) × (o ≡ a)) → HasOnly o
      by (inl old) = all k o old
      by (inr new) = subst HasOnly (sym new.1) has

  ended_have : (u : ℕ) (phase : Phase) (left : List ℕ) (s : State) → HaveOnly s → HaveOnly (record (end_flights u phase s) { stopped = left })
  unfolding end_flights
  ended_have u phase left s all k o found = by (object_at s k) refl (sym (at_map (end_flight u phase) k s.objects) ∙ found)
    where
      of : (p : Object) → HasOnly p → (end_flight u phase p ≡ p) ⊎ ((p.phase ≡ Flight u) × (end_flight u phase p ≡ set_phase phase p)) → HasOnly (end_flight u phase p)
      of p has (inl same) = subst HasOnly (sym same) has
      of p has (inr ended) = subst HasOnly (sym ended.1) (record { staged = has.staged; committed = has.committed })

      by : (x : Option Object) → object_at s k ≡ x → option_map (end_flight u phase) x ≡ Some o → HasOnly o
      by None was is = absurd cc
      by (Some p) was is = let same : end_flight u phase p ≡ o = cc in subst HasOnly same (of p (all k p was) (end_is u phase p))

  same_objects : (s t : State) → t.objects ≡ s.objects → HaveOnly s → HaveOnly t
  same_objects s t same all k o found = all k o (subst (λ es. at k es ≡ Some o) same found)

  swept_have : (past : Past) (s : State) → IsRising s → HaveOnly s → HaveOnly (swept past.seen past.reached s)
  swept_have past s rising all k o found = all k o (swept_was past s k o rising found).0

  module _ (arrays : (h : ℕ) → P (value.Object ty.Array1D h)) where
    taken_have : (h : ℕ) (name bytes : List ℕ) (loan : ParameterLoan) (s : State) → HaveOnly s → HaveOnly (take_in h name bytes loan s)
    unfolding take_in
    taken_have h name bytes loan s all =
        added_have (fresh (Array loan.elem) (Some _)) (changed_at h (set_staged (with_value name (value.Object ty.Array1D s.next))) (changed_at h (end_parameter_loan loan.number) s)) (new_has (Array loan.elem) (Some _))
        (changed_have h (set_staged (with_value name (value.Object ty.Array1D s.next))) (changed_at h (end_parameter_loan loan.number) s)
        (λ o has. record { staged = all_with_value (λ (entry : List ℕ × Value). P entry.1) name (value.Object ty.Array1D s.next) o.staged has.staged (arrays s.next); committed = has.committed })
        (changed_have h (end_parameter_loan loan.number) s (λ o has. record { staged = has.staged; committed = has.committed }) all))

    -- a call whose value, if it sets one, has P
    call_has : (place : ℕ) (call : Call) (r : Reply) (s : State) → ((h : ℕ) (name : List ℕ) (v : Value) → call ≡ SetParameter h name v → r ≡ reply.Done → P v) → HaveOnly s → HaveOnly (effect place call r s)
    unfolding effect discard unmap_parameter
    call_has place (NewObject t subtype) (reply.Made made) s sets all = by (kind_of t subtype)
      where
        by : (x : Option Kind) → HaveOnly (unwrap_or (option_map (λ kind. with_object (fresh kind None) s) x) s)
        by None = all
        by (Some kind) = added_have (fresh kind None) s (new_has kind None) all
    call_has place (NewArray elem count stride origin bytes) (reply.Made made) s sets all =
        added_have (fresh_array elem count stride origin bytes) s (record { staged = none; committed = none }) all
    call_has place (SetParameter h name v) reply.Done s sets all =
        changed_have h (set_staged (with_value name v)) s
        (λ o has. record { staged = all_with_value (λ (entry : List ℕ × Value). P entry.1) name v o.staged has.staged (sets h name v refl refl); committed = has.committed }) all
    call_has place (UnsetParameter h name) reply.Done s sets all =
        changed_have h (set_staged (without_value name)) s
        (λ o has. record { staged = all_without (λ (entry : List ℕ × Value). P entry.1) (is_at (slice_cmp nat_cmp name)) o.staged has.staged; committed = has.committed }) all
    call_has place (UnsetAll h) reply.Done s sets all = changed_have h (set_staged (λ _. [])) s (λ o has. record { staged = none; committed = has.committed }) all
    call_has place (Commit h) reply.Done s sets all = changed_have h commit s (λ o has. record { staged = has.staged; committed = has.staged }) all
    call_has place (MapArray h) (reply.Lent number) s sets all = changed_have h (change_array (lent place)) s (λ o has. record { staged = has.staged; committed = has.committed }) all
    call_has place (UnmapArray h number bytes) reply.Done s sets all = changed_have h (change_array (holding bytes)) s (λ o has. record { staged = has.staged; committed = has.committed }) all
    call_has place (MapParameterArray h name elem count) (reply.Lent number) s sets all =
        changed_have h (lend_parameter (record { number = place; name = name; elem = elem; count = count })) s (λ o has. record { staged = has.staged; committed = has.committed }) all
    call_has place (UnmapParameterArray h name number bytes) (reply.Made made) s sets all = by (option_and_then (λ o. parameter_loan number o.parameter_loans) (object_at s h))
      where
        by : (x : Option ParameterLoan) → HaveOnly (option_map_or (λ loan. take_in h name bytes loan s) x s)
        by None = all
        by (Some loan) = taken_have h name bytes loan s all
    call_has place (RenderFrame h) reply.Done s sets all = changed_have h (set_phase (Flight place)) s (λ o has. record { staged = has.staged; committed = has.committed }) all
    call_has place (DiscardFrame h) reply.Done s sets all =
        same_objects (changed_at h (set_phase Empty) s) (stop (option_map_or (λ o. o.phase) (object_at s h) Empty) (changed_at h (set_phase Empty) s))
        (stop_objects (option_map_or (λ o. o.phase) (object_at s h) Empty) (changed_at h (set_phase Empty) s))
        (changed_have h (set_phase Empty) s (λ o has. record { staged = has.staged; committed = has.committed }) all)
    call_has place (MapFrame h channel) (reply.Mapped width height kind rows) s sets all =
        changed_have h (map_channel channel place) s (λ o has. record { staged = has.staged; committed = has.committed }) all
    call_has place (UnmapFrame h number) reply.Done s sets all = changed_have h (unmap_channel number) s (λ o has. record { staged = has.staged; committed = has.committed }) all
    call_has place _ _ s sets all = all

    entry_has : (place : ℕ) (e : Entry) (s : State) → ((actor h : ℕ) (name : List ℕ) (v : Value) → e ≡ Called actor (SetParameter h name v) reply.Done → P v) → HaveOnly s → HaveOnly (change place e s)
    unfolding change end_flights
    entry_has place (Called actor call r) s sets all =
        call_has place call r s (λ h name v call_is reply_is. sets actor h name v (ap (λ call. Called actor call r) call_is ∙ ap (λ r. Called actor (SetParameter h name v) r) reply_is)) all
    entry_has place (Finished t) s sets all = ended_have t (Done t) s.stopped s all
    entry_has place (Left t) s sets all = ended_have t Empty (filter (λ u. not (u == t)) s.stopped) s all
    entry_has place Closed s sets all = λ h o found. absurd cc

    -- one more entry whose value, if it sets one, has P
    pub step_has : (past : Past) (e : Entry) → ((actor h : ℕ) (name : List ℕ) (v : Value) → e ≡ Called actor (SetParameter h name v) reply.Done → P v) → IsRising past.state → HaveOnly past.state →
        HaveOnly (step past e).state
    step_has past e sets rising all =
        subst HaveOnly (sym (step_state past e))
        (swept_have (step past e) (changed past e) (changed_rises past e rising).0 (entry_has (next_place past) e past.state sets all))

-- a value that was set is well typed
set_is_typed : (past : Past) (h : ℕ) (name : List ℕ) (v : Value) → refusal past (SetParameter h name v) ≡ None → is_well_typed v ≡ true
unfolding refusal refusals_of
set_is_typed past h name v none =
    let facts : AllNone (refusals_of_set past h name v) = all_none (refusals_of_set past h name v) none in
    let typed : (not (is_well_typed v) || option_map_or (λ row. not (permits past row v)) (row_at past h name) false) ≡ false =
    does_not_apply (not (is_well_typed v) || option_map_or (λ row. not (permits past row v)) (row_at past h name) false) BadType facts.1.1.1.1.1.0 in
    not-false (is_well_typed v) (or_parts (not (is_well_typed v)) (option_map_or (λ row. not (permits past row v)) (row_at past h name) false) typed).0

start_has : (P : Value → Type 0) → HaveOnly P (after []).state
unfolding after
start_has P h o found = absurd cc

-- so all values of a legal history are
pub legal_is_well_typed : (history : History) → Legal history → HaveOnly (λ v. is_well_typed v ≡ true) (after history).state
legal_is_well_typed history legal = legal_by (λ past. HaveOnly (λ v. is_well_typed v ≡ true) past.state) first more history legal
  where
    sets : (history : History) (e : Entry) → IsInPlace (after history) [] e → (actor h : ℕ) (name : List ℕ) (v : Value) → e ≡ Called actor (SetParameter h name v) reply.Done → is_well_typed v ≡ true
    sets history e placed actor h name v is =
        set_is_typed (after history) h name v
        (given (after history) (SetParameter h name v) reply.Done (subst (IsInPlace (after history) []) is placed).0 (λ refused is. cc)).0

    more : (history : History) (e : Entry) → Legal (history ++ e ∷ []) → IsInPlace (after history) [] e → HaveOnly (λ v. is_well_typed v ≡ true) (after history).state →
        HaveOnly (λ v. is_well_typed v ≡ true) (step (after history) e).state
    more history e legal placed all = step_has (λ v. is_well_typed v ≡ true) (λ h. refl) (after history) e (sets history e placed) (rises history) all

    first : HaveOnly (λ v. is_well_typed v ≡ true) (after []).state
    first = start_has (λ v. is_well_typed v ≡ true)
