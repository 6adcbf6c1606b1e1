-- An object that an entry does not change is what it was, as long as it is there.
use Rattle.std.proofs.Common.{ℕ, ◌==◌, ◌≡◌, ◌<◌, ◌∙◌, ◌⊎◌, inl, inr, true, false, List, [], ◌∷◌, ◌++◌, Option, Some, None, refl, sym, ap, arith}
use Rattle.std.specs.Prelude.{cond}
use Rattle.std.specs.Option.{option_and_then, option_map, option_map_or, unwrap_or}
use Rattle.std.proofs.lemmas.Bool.{eq-eqb}
use Rattle.dev_types.specs.declared.data_types.DataType.TheVariants as ty
use Rattle.dev_types.specs.declared.handles.Origin.TheVariants.{Managed}
use Rattle.dev_types.specs.declared.values.Value.TheVariants as value
use Rattle.kind_tables.specs.Kinds.{kind_of}
use Rattle.kind_tables.specs.SceneObjects.{with_value, without_value}
use Rattle.kind_tables.specs.declared.kinds.Kind.{Kind}
use Rattle.kind_tables.specs.declared.kinds.Kind.TheVariants.{Array}
use Rattle.seq_model.proofs.Afters.{after_more}
use Rattle.seq_model.proofs.Came.{added, stop_objects, swept_was}
use Rattle.seq_model.proofs.Changes.{others_unchanged}
use Rattle.seq_model.proofs.Handles.{changed, changed_rises, rises, step_state}
use Rattle.seq_model.proofs.Keys.{at, at_map}
use Rattle.seq_model.specs.Histories.{History}
use Rattle.seq_model.specs.State.{Object, ParameterLoan, Phase, Empty, Flight, Done, State, changed_at, content_of_loan, is_in_flight, object_at, parameter_loan, with_object}
use Rattle.seq_model.specs.Steps.{Past, after, change, change_array, commit, discard, effect, end_flight, end_flights, end_parameter_loan, fresh, fresh_array, holding, lend_parameter, lent, map_channel, next_place, set_phase, set_staged, step, take_in, unmap_channel, unmap_parameter}
use Rattle.seq_model.specs.declared.calls.Call.{Call}
use Rattle.seq_model.specs.declared.calls.Call.TheVariants.{NewObject, NewArray, Retain, SetParameter, UnsetParameter, UnsetAll, Commit, MapArray, UnmapArray, MapParameterArray, UnmapParameterArray, RenderFrame, DiscardFrame, MapFrame, UnmapFrame}
use Rattle.seq_model.specs.declared.calls.Entry.{Entry}
use Rattle.seq_model.specs.declared.calls.Entry.TheVariants.{Called, Finished, Left, Closed}
use Rattle.seq_model.specs.declared.calls.Reply.{Reply}
use Rattle.seq_model.specs.declared.calls.Reply.TheVariants as reply
use Rattle.device_laws.specs.Changing.{changes}
use Rattle.device_laws.specs.Showings.{is_flight, showing_at, showing_of, nothing_shown}

-- what is there now was there so
abbrev Was : ℕ → State → State → Type 0
Was h s t = (o : Object) → object_at t h ≡ Some o → object_at s h ≡ Some o

was_where : (h : ℕ) (s t : State) → object_at t h ≡ object_at s h → Was h s t
was_where h s t same o found = sym same ∙ found

other : (h k : ℕ) (f : Object → Object) (s : State) → (k == h) ≡ false → Was h s (changed_at k f s)
other h k f s apart = was_where h s (changed_at k f s) (others_unchanged k h f s (λ same. (let is : (k == h) ≡ true = eq-eqb k h (sym same) in absurd cc)))

with_more : (h : ℕ) (a : Object) (s u : State) → h < u.next → Was h s u → Was h s (with_object a u)
with_more h a s u less was o found = by (added a u h o found)
  where
    by : (object_at u h ≡ Some o) ⊎ ((h ≡ u.next) × (o ≡ a)) → object_at s h ≡ Some o
    by (inl old) = was o old
    by (inr new) = absurd (omega (arith, less, new.0))

made : (h : ℕ) (s : State) (kind : Option Kind) → h < s.next → Was h s (unwrap_or (option_map (λ kind. with_object (fresh kind None) s) kind) s)
made h s None less = λ o found. found
made h s (Some kind) less = with_more h (fresh kind None) s s less (λ o found. found)

taken : (h k : ℕ) (name bytes : List ℕ) (s : State) (loan : Option ParameterLoan) → h < s.next → (k == h) ≡ false → Was h s (option_map_or (λ loan. take_in k name bytes loan s) loan s)
unfolding take_in
taken h k name bytes s None less apart = λ o found. found
taken h k name bytes s (Some loan) less apart =
    with_more h (fresh (Array loan.elem) (Some (record { block = content_of_loan loan bytes; origin = Managed; loan = None }))) s
    (changed_at k (set_staged (with_value name (value.Object ty.Array1D s.next))) (changed_at k (end_parameter_loan loan.number) s)) less
    (λ o found. other h k (end_parameter_loan loan.number) s apart o
    (other h k (set_staged (with_value name (value.Object ty.Array1D s.next))) (changed_at k (end_parameter_loan loan.number) s) apart o found))

discarded : (h k : ℕ) (s : State) → (k == h) ≡ false → Was h s (discard k s)
unfolding discard
discarded h k s apart o found =
    other h k (set_phase Empty) s apart o (ap (at h) (sym (stop_objects (option_map_or (λ o. o.phase) (object_at s k) Empty) (changed_at k (set_phase Empty) s))) ∙ found)

not_ended : (t : ℕ) (phase : Phase) (p : Object) → is_in_flight t p ≡ false → end_flight t phase p ≡ p
unfolding end_flight
not_ended t phase p is = ap (λ b. cond b (set_phase phase p) p) is

ended : (h t : ℕ) (phase : Phase) (s : State) → is_flight t (showing_at s h).phase ≡ false → Was h s (end_flights t phase s)
unfolding end_flights
ended h t phase s apart o found = by (object_at s h) refl (sym (at_map (end_flight t phase) h s.objects) ∙ found) apart
  where
    by : (x : Option Object) → object_at s h ≡ x → option_map (end_flight t phase) x ≡ Some o → is_flight t (option_map_or showing_of x nothing_shown).phase ≡ false → object_at s h ≡ Some o
    by None none is apart = absurd cc
    by (Some p) some is apart = let one : end_flight t phase p ≡ o = cc in some ∙ ap Some (sym (not_ended t phase p apart) ∙ one)

call_leaves : (place actor h : ℕ) (call : Call) (r : Reply) (s : State) → h < s.next → changes s (Called actor call r) h ≡ false → Was h s (effect place call r s)
unfolding effect unmap_parameter
call_leaves place actor h (NewObject t subtype) (reply.Made n) s less apart = made h s (kind_of t subtype) less
call_leaves place actor h (NewArray elem count stride origin bytes) (reply.Made n) s less apart = with_more h (fresh_array elem count stride origin bytes) s s less (λ o found. found)
call_leaves place actor h (SetParameter k name v) reply.Done s less apart = other h k (set_staged (with_value name v)) s apart
call_leaves place actor h (UnsetParameter k name) reply.Done s less apart = other h k (set_staged (without_value name)) s apart
call_leaves place actor h (UnsetAll k) reply.Done s less apart = other h k (set_staged (λ _. [])) s apart
call_leaves place actor h (Commit k) reply.Done s less apart = other h k commit s apart
call_leaves place actor h (MapArray k) (reply.Lent number) s less apart = other h k (change_array (lent place)) s apart
call_leaves place actor h (UnmapArray k number bytes) reply.Done s less apart = other h k (change_array (holding bytes)) s apart
call_leaves place actor h (MapParameterArray k name elem count) (reply.Lent number) s less apart =
    other h k (lend_parameter (record { number = place; name = name; elem = elem; count = count })) s apart
call_leaves place actor h (UnmapParameterArray k name number bytes) (reply.Made n) s less apart =
    taken h k name bytes s (option_and_then (λ o. parameter_loan number o.parameter_loans) (object_at s k)) less apart
call_leaves place actor h (RenderFrame k) reply.Done s less apart = other h k (set_phase (Flight place)) s apart
call_leaves place actor h (DiscardFrame k) reply.Done s less apart = discarded h k s apart
call_leaves place actor h (MapFrame k channel) (reply.Mapped width height kind rows) s less apart = other h k (map_channel channel place) s apart
call_leaves place actor h (UnmapFrame k number) reply.Done s less apart = other h k (unmap_channel number) s apart
call_leaves place actor h (Retain k) r s less apart = λ o found. found
call_leaves place actor h _ _ s less apart = λ o found. found

entry_leaves : (place h : ℕ) (e : Entry) (s : State) → h < s.next → changes s e h ≡ false → Was h s (change place e s)
unfolding change
entry_leaves place h (Called actor call r) s less apart = call_leaves place actor h call r s less apart
entry_leaves place h (Finished t) s less apart = ended h t (Done t) s apart
entry_leaves place h (Left t) s less apart = ended h t Empty s apart
entry_leaves place h Closed s less apart = λ o found. absurd cc

pub others_stay : (history : History) (e : Entry) (h : ℕ) (o : Object) → h < (after history).state.next → changes (after history).state e h ≡ false →
    object_at (after (history ++ e ∷ [])).state h ≡ Some o → object_at (after history).state h ≡ Some o
others_stay history e h o less apart found =
    entry_leaves (next_place (after history)) h e (after history).state less apart o
    (swept_was (step (after history) e) (changed (after history) e) h o (changed_rises (after history) e (rises history)).0
    (ap (λ s. object_at s h) (sym (step_state (after history) e)) ∙ ap (λ (past : Past). object_at past.state h) (sym (after_more history e)) ∙ found)).0
