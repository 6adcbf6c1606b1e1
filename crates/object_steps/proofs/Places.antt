-- How many objects there are, as calls are carried out and objects die.
use Rattle.std.proofs.Common.{ℕ, ◌+◌, ◌-◌, ◌≡◌, ◌≤◌, ◌∙◌, not, Bool, true, false, List, [], ◌∷◌, Option, Some, None, length, refl, sym, ap, subst, length-append, arith}
use Rattle.std.specs.Prelude.{cond}
use Rattle.std.specs.BTreeMap.{is_at}
use Rattle.std.specs.List.{cons_option, filter, filter_map}
use Rattle.std.specs.Map.{keys_of, set_value}
use Rattle.std.specs.Option.{IsSome, is_some, option_and_then, option_map, option_map_or, unwrap_or}
use Rattle.std.specs.Ordering.{nat_cmp}
use Rattle.std.proofs.lemmas.List.{length-map}
use Rattle.std.proofs.lemmas.Map.{length-set_value}
use Rattle.dev_types.specs.declared.data_types.DataType.TheVariants as ty
use Rattle.dev_types.specs.declared.values.Value.TheVariants as value
use Rattle.kind_tables.specs.Kinds.{kind_of}
use Rattle.kind_tables.specs.SceneObjects.{with_value, without_value}
use Rattle.kind_tables.specs.declared.kinds.Kind.{Kind}
use Rattle.object_store.specs.Ends.{Ends, ended, ended_of, notice_of}
use Rattle.object_store.specs.Gathers.{IsLeft}
use Rattle.object_store.specs.Kept.{Stored}
use Rattle.object_store.specs.Parts.{at}
use Rattle.object_store.proofs.DeadSteps.{has_key}
use Rattle.past_laws.specs.Suits.{taken_array}
use Rattle.seq_model.proofs.Came.{stop_objects}
use Rattle.seq_model.specs.Life.{has}
use Rattle.seq_model.specs.Refusals.{is_parameter_out}
use Rattle.seq_model.specs.State.{Empty, Object, ParameterLoan, State, changed_at, object_at, parameter_loan, with_object}
use Rattle.seq_model.specs.Steps.{change_array, commit, discard, effect, end_parameter_loan, fresh, fresh_array, holding, lend_parameter, lent, set_phase, set_staged, take_in, unmap_parameter}
use Rattle.seq_model.specs.Told.{end_of_object, gone}
use Rattle.seq_model.specs.declared.calls.Call.{Call}
use Rattle.seq_model.specs.declared.calls.Call.TheVariants.{NewObject, NewArray, Retain, Release, SetParameter, UnsetParameter, UnsetAll, Commit, MapArray, UnmapArray, MapParameterArray, UnmapParameterArray, RenderFrame, DiscardFrame, MapFrame, UnmapFrame}
use Rattle.seq_model.specs.declared.calls.Reply.{Reply}
use Rattle.seq_model.specs.declared.calls.Reply.TheVariants as reply
use Rattle.object_steps.specs.Carrying.{CanCarry, carried}
use Rattle.object_steps.specs.Objects.{HasPlaces, is_birth, one_if, takes_memory}
use Rattle.object_steps.proofs.Tellables.{effect_tellable, fewer_told, plain_tellable}

-- what is collected of a list is no more than it has
pub most_collected : {X Y : Type 0} (f : X → Option Y) (xs : List X) → length (filter_map f xs) ≤ length xs
most_collected f [] = omega arith
most_collected f (x ∷ xs) = by (f x) (most_collected f xs)
  where
    by : (y : Option _) → length (filter_map f xs) ≤ length xs → length (cons_option y (filter_map f xs)) ≤ length (x ∷ xs)
    by None rest = omega (arith, rest)
    by (Some y) rest = omega (arith, rest)

-- nor is more collected of a part
pub fewer_collected : {X Y : Type 0} (f : X → Option Y) (p : X → Bool) (xs : List X) → length (filter_map f (filter p xs)) ≤ length (filter_map f xs)
fewer_collected f p [] = omega arith
fewer_collected f p (x ∷ xs) = by (p x) (f x) refl (fewer_collected f p xs)
  where
    by : (t : Bool) (y : Option _) → f x ≡ y → length (filter_map f (filter p xs)) ≤ length (filter_map f xs) → length (filter_map f (cond t (x ∷ filter p xs) (filter p xs))) ≤ length (cons_option y (filter_map f xs))
    by true None is rest = subst (λ y. length (cons_option y (filter_map f (filter p xs))) ≤ length (filter_map f xs)) (sym is) rest
    by true (Some y) is rest = subst (λ z. length (cons_option z (filter_map f (filter p xs))) ≤ length (y ∷ filter_map f xs)) (sym is) (omega (arith, rest))
    by false None is rest = rest
    by false (Some y) is rest = omega (arith, rest)

two_parts : {X : Type 0} (p : X → Bool) (xs : List X) → length (filter p xs) + length (filter (λ x. not (p x)) xs) ≡ length xs
two_parts p [] = refl
two_parts p (x ∷ xs) = by (p x) (two_parts p xs)
  where
    by : (t : Bool) → length (filter p xs) + length (filter (λ x. not (p x)) xs) ≡ length xs →
        length (cond t (x ∷ filter p xs) (filter p xs)) + length (cond (not t) (x ∷ filter (λ x. not (p x)) xs) (filter (λ x. not (p x)) xs)) ≡ length (x ∷ xs)
    by true rest = omega (arith, rest)
    by false rest = omega (arith, rest)

-- who is left and who is gone are all that were there
pub left_and_gone : (old now : Stored) → IsLeft old now → length now.state.objects + length (keys_of (gone old.state now.state)) ≡ length old.state.objects
left_and_gone old now left =
    let keys : length (keys_of (gone old.state now.state)) ≡ length (gone old.state now.state) = length-map (gone old.state now.state) (λ (e : ℕ × Object). e.0) in
    let same : gone old.state now.state ≡ filter (λ (e : ℕ × Object). not (is_some (at e.0 now.state.objects))) old.state.objects =
    ap (λ (p : ℕ × Object → Bool). filter p old.state.objects) (λ i e. not (has_key e.0 now.state.objects i)) in
    omega (arith, keys, ap length same, ap length left.kept, two_parts (λ (e : ℕ × Object). is_some (at e.0 now.state.objects)) old.state.objects)

changed_length : (h : ℕ) (f : Object → Object) (s : State) → length (changed_at h f s).objects ≡ length s.objects
changed_length h f s = by (object_at s h)
  where
    by : (x : Option Object) → length (unwrap_or (option_map (λ o. set_value (is_at (nat_cmp h)) s.objects (f o)) x) s.objects) ≡ length s.objects
    by None = refl
    by (Some o) = length-set_value (is_at (nat_cmp h)) s.objects (f o)

new_length : (o : Object) (s : State) → length (with_object o s).objects ≡ length s.objects + 1
new_length o s = length-append s.objects ((s.next, o) ∷ [])

made_length : (s : State) (kind : Option Kind) → IsSome kind → length (unwrap_or (option_map (λ kind. with_object (fresh kind None) s) kind) s).objects ≡ length s.objects + 1
made_length s None some = absurd cc
made_length s (Some kind) some = new_length (fresh kind None) s

taken_length : (h number len : ℕ) (name bytes : List ℕ) (s : State) (loan : Option ParameterLoan) → option_map_or (is_parameter_out name number len) loan false ≡ true →
    length (option_map_or (λ loan. take_in h name bytes loan s) loan s).objects ≡ length s.objects + 1
unfolding take_in
taken_length h number len name bytes s None out = absurd cc
taken_length h number len name bytes s (Some loan) out =
    let first : State = changed_at h (end_parameter_loan loan.number) s in
    let second : State = changed_at h (set_staged (with_value name (value.Object ty.Array1D s.next))) first in
    omega (arith, new_length (taken_array loan bytes) second, changed_length h (set_staged (with_value name (value.Object ty.Array1D s.next))) first, changed_length h (end_parameter_loan loan.number) s)

none_more : (n : ℕ) → n ≡ n + 0
none_more n = omega arith

-- the call makes one object more, or none
pub effect_length : (place : ℕ) (call : Call) (r : Reply) (s : Stored) → CanCarry s call r → length (effect place call r s.state).objects ≡ length s.state.objects + one_if (is_birth call r)
unfolding effect unmap_parameter
effect_length place (NewObject t subtype) (reply.Made made) s can = made_length s.state (kind_of t subtype) can.1
effect_length place (NewArray elem count stride origin bytes) (reply.Made made) s can = new_length (fresh_array elem count stride origin bytes) s.state
effect_length place (SetParameter h name v) reply.Done s can = changed_length h (set_staged (with_value name v)) s.state ∙ none_more (length s.state.objects)
effect_length place (UnsetParameter h name) reply.Done s can = changed_length h (set_staged (without_value name)) s.state ∙ none_more (length s.state.objects)
effect_length place (UnsetAll h) reply.Done s can = changed_length h (set_staged (λ _. [])) s.state ∙ none_more (length s.state.objects)
effect_length place (Commit h) reply.Done s can = changed_length h commit s.state ∙ none_more (length s.state.objects)
effect_length place (MapArray h) (reply.Lent number) s can = changed_length h (change_array (lent place)) s.state ∙ none_more (length s.state.objects)
effect_length place (UnmapArray h number bytes) reply.Done s can = changed_length h (change_array (holding bytes)) s.state ∙ none_more (length s.state.objects)
effect_length place (MapParameterArray h name elem count) (reply.Lent number) s can =
    changed_length h (lend_parameter (record { number = place; name = name; elem = elem; count = count })) s.state ∙ none_more (length s.state.objects)
effect_length place (UnmapParameterArray h name number bytes) (reply.Made made) s can =
    taken_length h number (length bytes) name bytes s.state (option_and_then (λ o. parameter_loan number o.parameter_loans) (object_at s.state h)) can.1
effect_length place (RenderFrame h) reply.Done s can = absurd can
effect_length place (DiscardFrame h) reply.Done s can = absurd can
effect_length place (MapFrame h channel) (reply.Mapped width height t rows) s can = absurd can
effect_length place (UnmapFrame h number) reply.Done s can = absurd can
effect_length place call r s can = none_more (length s.state.objects)

-- and uses the room for one
room_used : (place : ℕ) (call : Call) (r : Reply) (s : Stored) → CanCarry s call r → one_if (is_birth call r) + one_if (carried place call r s).ready ≡ one_if s.ready
room_used place (NewObject t subtype) (reply.Made made) s can = sym (ap one_if can.0)
room_used place (NewArray elem count stride origin bytes) (reply.Made made) s can = sym (ap one_if can.0)
room_used place (UnmapParameterArray h name number bytes) (reply.Made made) s can = sym (ap one_if can.0)
room_used place (Retain h) reply.Done s can = let e : 0 + one_if s.ready ≡ one_if s.ready = omega arith in e
room_used place (Release h) reply.Done s can = let e : 0 + one_if s.ready ≡ one_if s.ready = omega arith in e
room_used place call r s can = let e : 0 + one_if s.ready ≡ one_if s.ready = omega arith in e

pub places_after : (place : ℕ) (call : Call) (r : Reply) (s : Stored) (dead : Ends) (count told places : ℕ) → CanCarry s call r → HasPlaces s dead count told places →
    HasPlaces (carried place call r s) dead (count + one_if (is_birth call r)) (told + one_if (takes_memory call r)) places
places_after place call r s dead count told places can has = record {
  number = omega (arith, effect_length place call r s can, has.number);
  tellable = omega (arith, effect_tellable place call r s can, has.tellable);
  ends = omega (arith, room_used place call r s can, has.ends);
  handles = omega (arith, room_used place call r s can, has.handles);
}

-- and so after a change of one object, which leaves its array
pub places_changed : (h : ℕ) (f : Object → Object) (s : Stored) (dead : Ends) (count told places : ℕ) → ((o : Object) → (f o).array ≡ o.array) → HasPlaces s dead count told places →
    HasPlaces (record s { state = changed_at h f s.state }) dead count told places
places_changed h f s dead count told places same has = record {
  number = changed_length h f s.state ∙ has.number;
  tellable = plain_tellable h f s.state same ∙ has.tellable;
  ends = has.ends;
  handles = has.handles;
}

stopped_objects : (h : ℕ) (s : State) → (discard h s).objects ≡ (changed_at h (set_phase Empty) s).objects
unfolding discard
stopped_objects h s = stop_objects (option_map_or (λ o. o.phase) (object_at s h) Empty) (changed_at h (set_phase Empty) s)

-- and so after a discard, with other room for what was stopped
pub places_discarded : (h room : ℕ) (s : Stored) (dead : Ends) (count told places : ℕ) → HasPlaces s dead count told places →
    HasPlaces (record s { state = discard h s.state; places = room }) dead count told places
places_discarded h room s dead count told places has = record {
  number = ap (λ (es : List (ℕ × Object)). length es) (stopped_objects h s.state) ∙ changed_length h (set_phase Empty) s.state ∙ has.number;
  tellable = ap (λ (es : List (ℕ × Object)). length (filter_map end_of_object es)) (stopped_objects h s.state) ∙ plain_tellable h (set_phase Empty) s.state (λ o. refl) ∙ has.tellable;
  ends = has.ends;
  handles = has.handles;
}

-- and so after a burial
pub places_left : (old now : Stored) (before after : Ends) (count told places more : ℕ) → IsLeft old now → HasPlaces old before count told places →
    after.list ≡ ended (gone old.state now.state) → filter_map notice_of after.list ≡ filter_map end_of_object (gone old.state now.state) → after.room ≡ before.room → more ≡ places →
    (departed : ℕ) → departed ≡ length (keys_of (gone old.state now.state)) → (notices : ℕ) → notices ≡ length (filter_map notice_of after.list) → HasPlaces now after (count - departed) (told - notices) more
places_left old now before after count told places more left has dead ends room same departed number notices noted =
    let keys : length (keys_of (gone old.state now.state)) ≡ length (gone old.state now.state) = length-map (gone old.state now.state) (λ (e : ℕ × Object). e.0) in
    record {
      number = omega (arith, left_and_gone old now left, has.number, number);
      tellable = omega (arith, fewer_told old now left, has.tellable, noted, ap length ends);
      ends = omega (arith, left_and_gone old now left, has.number, number, has.ends, room, ap one_if left.ready, ap length dead, keys, most_collected ended_of (gone old.state now.state));
      handles = omega (arith, left_and_gone old now left, has.number, number, has.handles, same, ap one_if left.ready);
    }

-- no object is left, and there is room for the ends of all that there were
pub places_cleared : (old new : Stored) (before dead : Ends) (count told before_places places : ℕ) → HasPlaces old before count told before_places → new.state.objects ≡ [] → new.ready ≡ false →
    dead ≡ record before { list = ended old.state.objects } → HasPlaces new dead 0 0 places
places_cleared old new before dead count told before_places places had none unready are = record {
  number = ap length none;
  tellable = ap (λ objects. length (filter_map end_of_object objects)) none;
  ends =
      let room : dead.room ≡ before.room = ap (λ (d : Ends). d.room) are in
      omega (arith, ap one_if unready, ap (λ (d : Ends). length d.list) are, room, most_collected ended_of old.state.objects, had.number, had.ends);
  handles = omega (arith, ap one_if unready);
}
