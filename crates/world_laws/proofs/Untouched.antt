-- An object that no entry touches stays what it is, but for whether it is mapped, as long as it is there.
use Rattle.std.proofs.Common.{ℕ, ◌==◌, ◌≡◌, ◌<◌, ◌≤◌, ◌∙◌, ◌⊎◌, inl, inr, true, false, List, [], ◌∷◌, ◌++◌, All, append-nil, append_assoc, Option, Some, None, refl, sym, ap, subst, arith}
use Rattle.std.specs.Prelude.{◌||◌}
use Rattle.std.specs.Option.{option_and_then, option_map, option_map_or, unwrap_or}
use Rattle.std.proofs.lemmas.Bool.{cases_eq, eq-eqb}
use Rattle.std.proofs.lemmas.List.Elements.{All-head, All-tail}
use Rattle.dev_types.specs.declared.data_types.DataType.TheVariants as ty
use Rattle.dev_types.specs.declared.handles.Origin.TheVariants.{Managed}
use Rattle.dev_types.specs.declared.values.Value.TheVariants as value
use Rattle.kind_tables.specs.Kinds.{kind_of}
use Rattle.kind_tables.specs.SceneObjects.{SceneObject, object_at as scene_object_at, with_value, without_value}
use Rattle.kind_tables.specs.declared.kinds.Kind.{Kind}
use Rattle.kind_tables.specs.declared.kinds.Kind.TheVariants.{Array}
use Rattle.past_laws.specs.Stills.{unmarked}
use Rattle.seq_model.proofs.Afters.{after_more}
use Rattle.seq_model.proofs.Came.{added, end_is, stop_objects, swept_was}
use Rattle.seq_model.proofs.Changes.{changed_here, others_unchanged}
use Rattle.seq_model.proofs.Handles.{IsRising, changed, changed_rises, next_grows, rises, step_state}
use Rattle.seq_model.proofs.Keys.{at, at_map}
use Rattle.seq_model.specs.Builds.{is_touching}
use Rattle.seq_model.specs.Histories.{History}
use Rattle.seq_model.specs.State.{ArrayState, Object, ParameterLoan, Phase, Empty, Flight, Done, State, changed_at, content_of_loan, object_at, parameter_loan, scene_object, scene_objects, with_object}
use Rattle.seq_model.specs.Steps.{Past, after, change, change_array, commit, discard, effect, end_flight, end_flights, end_parameter_loan, fresh, fresh_array, holding, lend_parameter, lent, map_channel, next_place, set_phase, set_staged, step, swept, take_in, unmap_channel, unmap_parameter}
use Rattle.seq_model.specs.declared.calls.Call.{Call}
use Rattle.seq_model.specs.declared.calls.Call.TheVariants.{NewObject, NewArray, Retain, SetParameter, UnsetParameter, UnsetAll, Commit, MapArray, UnmapArray, MapParameterArray, UnmapParameterArray, RenderFrame, DiscardFrame, MapFrame, UnmapFrame}
use Rattle.seq_model.specs.declared.calls.Entry.{Entry}
use Rattle.seq_model.specs.declared.calls.Entry.TheVariants.{Called, Finished, Left, Closed}
use Rattle.seq_model.specs.declared.calls.Reply.{Reply}
use Rattle.seq_model.specs.declared.calls.Reply.TheVariants as reply
use Rattle.world_laws.specs.Alike.{IsAsBefore}

before_itself : (x : Option SceneObject) → IsAsBefore x x
before_itself None = tt
before_itself (Some o) = refl

before_both : (x y z : Option SceneObject) → IsAsBefore x y → IsAsBefore y z → IsAsBefore x z
before_both x y None first second = tt
before_both x None (Some o) first second = absurd second
before_both None (Some p) (Some o) first second = absurd first
before_both (Some q) (Some p) (Some o) first second = second ∙ first

-- object h of a state is as it was in another
abbrev StaysAt : ℕ → State → State → Type 0
StaysAt h s t = IsAsBefore (option_map scene_object (object_at s h)) (option_map scene_object (object_at t h))

stays_itself : (h : ℕ) (s : State) → StaysAt h s s
stays_itself h s = before_itself (option_map scene_object (object_at s h))

stays_both : (h : ℕ) (s t u : State) → StaysAt h s t → StaysAt h t u → StaysAt h s u
stays_both h s t u first second = before_both (option_map scene_object (object_at s h)) (option_map scene_object (object_at t h)) (option_map scene_object (object_at u h)) first second

stays_where : (h : ℕ) (s t : State) → object_at t h ≡ object_at s h → StaysAt h s t
stays_where h s t same = subst (λ x. IsAsBefore (option_map scene_object (object_at s h)) (option_map scene_object x)) (sym same) (stays_itself h s)

-- a change that leaves an object as it is, but for its mark, and one of another object
abbrev LeavesAsIs : (Object → Object) → Type 0
LeavesAsIs f = (o : Object) → unmarked (scene_object (f o)) ≡ unmarked (scene_object o)

changed_stays : (h k : ℕ) (f : Object → Object) (s : State) → LeavesAsIs f → StaysAt h s (changed_at k f s)
changed_stays h k f s leaves = by (cases_eq h k)
  where
    here : (x : Option Object) → IsAsBefore (option_map scene_object x) (option_map scene_object (option_map f x))
    here None = tt
    here (Some o) = leaves o

    by : (h ≡ k) ⊎ (h ≡ k → ⊥) → StaysAt h s (changed_at k f s)
    by (inl same) =
        subst (λ h. StaysAt h s (changed_at k f s)) (sym same)
        (subst (λ x. IsAsBefore (option_map scene_object (object_at s k)) (option_map scene_object x)) (sym (changed_here k f s)) (here (object_at s k)))
    by (inr apart) = stays_where h s (changed_at k f s) (others_unchanged k h f s apart)

other_stays : (h k : ℕ) (f : Object → Object) (s : State) → ((h == k) || false) ≡ false → StaysAt h s (changed_at k f s)
other_stays h k f s apart = stays_where h s (changed_at k f s) (others_unchanged k h f s (λ same. (let is : (h == k) ≡ true = eq-eqb h k same in absurd cc)))

array_stays : (f : ArrayState → ArrayState) → ((a : ArrayState) → (f a).block ≡ a.block) → LeavesAsIs (change_array f)
array_stays f same o = ap (λ b. record { kind = o.kind; committed = o.committed; block = b; mapped = false }) (by o.array)
  where
    by : (x : Option ArrayState) → option_map (λ (a : ArrayState). a.block) (option_map f x) ≡ option_map (λ (a : ArrayState). a.block) x
    by None = refl
    by (Some a) = ap Some (same a)

-- an object more
new_stays : (h : ℕ) (o : Object) (s : State) → h < s.next → StaysAt h s (with_object o s)
new_stays h o s less = by (object_at (with_object o s) h) refl
  where
    of : (p : Object) → (object_at s h ≡ Some p) ⊎ ((h ≡ s.next) × (p ≡ o)) → IsAsBefore (option_map scene_object (object_at s h)) (Some (scene_object p))
    of p (inl was) = subst (λ x. IsAsBefore (option_map scene_object x) (Some (scene_object p))) (sym was) refl
    of p (inr new) = absurd (omega (arith, less, new.0))

    by : (x : Option Object) → object_at (with_object o s) h ≡ x → IsAsBefore (option_map scene_object (object_at s h)) (option_map scene_object x)
    by None is = tt
    by (Some p) is = of p (added o s h p is)

made_stays : (h : ℕ) (s : State) (kind : Option Kind) → h < s.next → StaysAt h s (unwrap_or (option_map (λ kind. with_object (fresh kind None) s) kind) s)
made_stays h s None less = stays_itself h s
made_stays h s (Some kind) less = new_stays h (fresh kind None) s less

taken_stays : (h k : ℕ) (name bytes : List ℕ) (s : State) (loan : Option ParameterLoan) → h < s.next → StaysAt h s (option_map_or (λ loan. take_in k name bytes loan s) loan s)
unfolding take_in
taken_stays h k name bytes s None less = stays_itself h s
taken_stays h k name bytes s (Some loan) less =
    let first : State = changed_at k (end_parameter_loan loan.number) s in
    let second : State = changed_at k (set_staged (with_value name (value.Object ty.Array1D s.next))) first in
    let made : Object = fresh (Array loan.elem) (Some (record { block = content_of_loan loan bytes; origin = Managed; loan = None })) in
    stays_both h s first (with_object made second) (changed_stays h k (end_parameter_loan loan.number) s (λ o. refl))
    (stays_both h first second (with_object made second) (changed_stays h k (set_staged (with_value name (value.Object ty.Array1D s.next))) first (λ o. refl))
    (new_stays h made second less))

discarded_stays : (h k : ℕ) (s : State) → StaysAt h s (discard k s)
unfolding discard
discarded_stays h k s =
    subst (λ es. IsAsBefore (option_map scene_object (object_at s h)) (option_map scene_object (at h es))) (sym (stop_objects _ (changed_at k (set_phase Empty) s)))
    (changed_stays h k (set_phase Empty) s (λ o. refl))

ended_stays : (h u : ℕ) (phase : Phase) (s : State) → StaysAt h s (end_flights u phase s)
unfolding end_flights
ended_stays h u phase s =
    subst (λ x. IsAsBefore (option_map scene_object (object_at s h)) (option_map scene_object x)) (sym (at_map (end_flight u phase) h s.objects)) (here (object_at s h))
  where
    of : (o : Object) → (end_flight u phase o ≡ o) ⊎ ((o.phase ≡ Flight u) × (end_flight u phase o ≡ set_phase phase o)) → unmarked (scene_object (end_flight u phase o)) ≡ unmarked (scene_object o)
    of o (inl same) = ap (λ o. unmarked (scene_object o)) same
    of o (inr ended) = ap (λ o. unmarked (scene_object o)) ended.1

    here : (x : Option Object) → IsAsBefore (option_map scene_object x) (option_map scene_object (option_map (end_flight u phase) x))
    here None = tt
    here (Some o) = of o (end_is u phase o)

call_leaves : (place actor h : ℕ) (call : Call) (r : Reply) (s : State) → h < s.next → is_touching (h ∷ []) (Called actor call r) ≡ false → StaysAt h s (effect place call r s)
unfolding effect unmap_parameter
call_leaves place actor h (NewObject t subtype) (reply.Made made) s less apart = made_stays h s (kind_of t subtype) less
call_leaves place actor h (NewArray elem count stride origin bytes) (reply.Made made) s less apart = new_stays h (fresh_array elem count stride origin bytes) s less
call_leaves place actor h (SetParameter k name v) reply.Done s less apart = changed_stays h k (set_staged (with_value name v)) s (λ o. refl)
call_leaves place actor h (UnsetParameter k name) reply.Done s less apart = changed_stays h k (set_staged (without_value name)) s (λ o. refl)
call_leaves place actor h (UnsetAll k) reply.Done s less apart = changed_stays h k (set_staged (λ _. [])) s (λ o. refl)
call_leaves place actor h (Commit k) reply.Done s less apart = other_stays h k commit s apart
call_leaves place actor h (MapArray k) (reply.Lent number) s less apart = changed_stays h k (change_array (lent place)) s (array_stays (lent place) (λ a. refl))
call_leaves place actor h (UnmapArray k number bytes) reply.Done s less apart = other_stays h k (change_array (holding bytes)) s apart
call_leaves place actor h (MapParameterArray k name elem count) (reply.Lent number) s less apart =
    changed_stays h k (lend_parameter (record { number = place; name = name; elem = elem; count = count })) s (λ o. refl)
call_leaves place actor h (UnmapParameterArray k name number bytes) (reply.Made made) s less apart =
    taken_stays h k name bytes s (option_and_then (λ o. parameter_loan number o.parameter_loans) (object_at s k)) less
call_leaves place actor h (RenderFrame k) reply.Done s less apart = changed_stays h k (set_phase (Flight place)) s (λ o. refl)
call_leaves place actor h (DiscardFrame k) reply.Done s less apart = discarded_stays h k s
call_leaves place actor h (MapFrame k channel) (reply.Mapped width height kind rows) s less apart = changed_stays h k (map_channel channel place) s (λ o. refl)
call_leaves place actor h (UnmapFrame k number) reply.Done s less apart = changed_stays h k (unmap_channel number) s (λ o. refl)
call_leaves place actor h (Retain k) r s less apart = stays_itself h s
call_leaves place actor h _ _ s less apart = stays_itself h s

entry_leaves : (place h : ℕ) (e : Entry) (s : State) → h < s.next → is_touching (h ∷ []) e ≡ false → StaysAt h s (change place e s)
unfolding change
entry_leaves place h (Called actor call r) s less apart = call_leaves place actor h call r s less apart
entry_leaves place h (Finished u) s less apart = ended_stays h u (Done u) s
entry_leaves place h (Left u) s less apart = ended_stays h u Empty s
entry_leaves place h Closed s less apart = tt

-- what the sweep leaves stays
swept_stays : (past : Past) (h : ℕ) (s : State) → IsRising s → StaysAt h s (swept past.seen past.reached s)
swept_stays past h s rising = by (object_at (swept past.seen past.reached s) h) refl
  where
    by : (x : Option Object) → object_at (swept past.seen past.reached s) h ≡ x → IsAsBefore (option_map scene_object (object_at s h)) (option_map scene_object x)
    by None is = tt
    by (Some p) is = subst (λ x. IsAsBefore (option_map scene_object x) (Some (scene_object p))) (sym (swept_was past s h p rising is).0) refl

step_leaves : (past : Past) (e : Entry) (h : ℕ) → IsRising past.state → h < past.state.next → is_touching (h ∷ []) e ≡ false → StaysAt h past.state (step past e).state
step_leaves past e h rising less apart =
    stays_both h past.state (changed past e) (step past e).state (entry_leaves (next_place past) h e past.state less apart)
    (subst (λ t. StaysAt h (changed past e) t) (sym (step_state past e)) (swept_stays (step past e) h (changed past e) (changed_rises past e rising).0))

-- over further entries
stays_over : (history further : History) (h : ℕ) → h < (after history).state.next → All (λ e. is_touching (h ∷ []) e ≡ false) further →
    StaysAt h (after history).state (after (history ++ further)).state
stays_over history [] h less apart = subst (λ l. StaysAt h (after history).state (after l).state) (sym (append-nil history)) (stays_itself h (after history).state)
stays_over history (e ∷ rest) h less apart =
    let one : StaysAt h (after history).state (after (history ++ e ∷ [])).state =
    subst (λ (past : Past). StaysAt h (after history).state past.state) (sym (after_more history e))
    (step_leaves (after history) e h (rises history) less (All-head (λ (e : Entry). is_touching (h ∷ []) e ≡ false) e rest apart)) in
    let grows : (after history).state.next ≤ (after (history ++ e ∷ [])).state.next = next_grows history (e ∷ []) in
    let others : StaysAt h (after (history ++ e ∷ [])).state (after ((history ++ e ∷ []) ++ rest)).state =
    stays_over (history ++ e ∷ []) rest h (omega (arith, less, grows)) (All-tail (λ (e : Entry). is_touching (h ∷ []) e ≡ false) e rest apart) in
    subst (λ l. StaysAt h (after history).state (after l).state) (append_assoc history (e ∷ []) rest)
    (stays_both h (after history).state (after (history ++ e ∷ [])).state (after ((history ++ e ∷ []) ++ rest)).state one others)

pub untouched_stay : (history further : History) (h : ℕ) → h < (after history).state.next → All (λ e. is_touching (h ∷ []) e ≡ false) further →
    IsAsBefore (scene_object_at (scene_objects (after history).state) h) (scene_object_at (scene_objects (after (history ++ further)).state) h)
untouched_stay history further h less apart =
    subst (λ x. IsAsBefore x (scene_object_at (scene_objects (after (history ++ further)).state) h)) (sym (at_map scene_object h (after history).state.objects))
    (subst (λ x. IsAsBefore (option_map scene_object (object_at (after history).state h)) x) (sym (at_map scene_object h (after (history ++ further)).state.objects))
    (stays_over history further h less apart))
