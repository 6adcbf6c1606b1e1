-- Of how many ends the client is to be told, as calls are carried out and objects die.
use Rattle.std.proofs.Common.{◌≡◌, ◌∙◌, ℕ, ◌+◌, Bool, true, false, cond, not, List, [], ◌∷◌, Option, Some, None, length, ap, refl, sym, subst, arith}
use Rattle.std.specs.BTreeMap.{is_at}
use Rattle.std.specs.List.{cons_option, filter, filter_map}
use Rattle.std.specs.Map.{lookup, set_value}
use Rattle.std.specs.Option.{IsSome, is_some, option_and_then, option_map, option_map_or, option_to_list, unwrap_or}
use Rattle.std.specs.Ordering.{nat_cmp}
use Rattle.dev_types.specs.declared.data_types.DataType.{DataType}
use Rattle.dev_types.specs.declared.data_types.DataType.TheVariants as ty
use Rattle.dev_types.specs.declared.handles.Origin.{Origin}
use Rattle.dev_types.specs.declared.handles.Origin.TheVariants.{Captured, Managed, Shared}
use Rattle.dev_types.specs.declared.notices.Notice.{Notice}
use Rattle.dev_types.specs.declared.values.Value.TheVariants as value
use Rattle.kind_tables.specs.Kinds.{kind_of}
use Rattle.kind_tables.specs.SceneObjects.{with_value, without_value}
use Rattle.kind_tables.specs.declared.kinds.Kind.{Kind}
use Rattle.object_store.specs.Gathers.{IsLeft}
use Rattle.object_store.specs.Kept.{Stored}
use Rattle.object_store.specs.Parts.{at}
use Rattle.object_store.proofs.DeadSteps.{has_key}
use Rattle.object_store.proofs.Reversed.{collected_more}
use Rattle.past_laws.specs.Suits.{taken_array}
use Rattle.seq_model.specs.Refusals.{is_parameter_out}
use Rattle.seq_model.specs.State.{ArrayState, Object, ParameterLoan, State, changed_at, object_at, parameter_loan, with_object}
use Rattle.seq_model.specs.Steps.{change_array, commit, effect, end_parameter_loan, fresh, fresh_array, holding, lend_parameter, lent, set_staged, take_in, unmap_parameter}
use Rattle.seq_model.specs.Told.{end_of_array, end_of_object, gone}
use Rattle.seq_model.specs.declared.calls.Call.{Call}
use Rattle.seq_model.specs.declared.calls.Call.TheVariants.{NewObject, NewArray, SetParameter, UnsetParameter, UnsetAll, Commit, MapArray, UnmapArray, MapParameterArray, UnmapParameterArray, RenderFrame, DiscardFrame, MapFrame, UnmapFrame}
use Rattle.seq_model.specs.declared.calls.Reply.{Reply}
use Rattle.seq_model.specs.declared.calls.Reply.TheVariants as reply
use Rattle.object_steps.specs.Carrying.{CanCarry}
use Rattle.object_steps.specs.Objects.{gives_memory, one_if, takes_memory, tellable}

-- one where the client is to be told of the end of an object, else none
abbrev weight : ℕ × Object → ℕ
weight e = length (option_to_list (end_of_object e))

first_weight : (e : ℕ × Object) (es : List (ℕ × Object)) → length (filter_map end_of_object (e ∷ es)) ≡ weight e + length (filter_map end_of_object es)
first_weight e es = by (end_of_object e)
  where
    by : (y : Option Notice) → length (cons_option y (filter_map end_of_object es)) ≡ length (option_to_list y) + length (filter_map end_of_object es)
    by None = omega arith
    by (Some y) = omega arith

-- an object that is replaced by one of the same weight
replaced : (test : ℕ → Bool) (es : List (ℕ × Object)) (o p : Object) → lookup test es ≡ Some o → ((k : ℕ) → weight (k, p) ≡ weight (k, o)) →
    length (filter_map end_of_object (set_value test es p)) ≡ length (filter_map end_of_object es)
replaced test [] o p found same = refl
replaced test (e ∷ es) o p found same = by (test e.0) refl (replaced test es o p)
  where
    by : (t : Bool) → test e.0 ≡ t → (lookup test es ≡ Some o → ((k : ℕ) → weight (k, p) ≡ weight (k, o)) → length (filter_map end_of_object (set_value test es p)) ≡ length (filter_map end_of_object es)) →
        length (filter_map end_of_object (cond t ((e.0, p) ∷ es) (e ∷ set_value test es p))) ≡ length (filter_map end_of_object (e ∷ es))
    by true is rest =
        let here : Some e.1 ≡ Some o = sym (ap (λ b. cond b (Some e.1) (lookup test es)) is) ∙ found in
        let this : e.1 ≡ o = ap (λ x. unwrap_or x e.1) here in
        first_weight (e.0, p) es ∙ ap (λ n. n + length (filter_map end_of_object es)) (same e.0 ∙ ap (λ x. weight (e.0, x)) (sym this)) ∙ sym (first_weight e es)
    by false is rest =
        let there : lookup test es ≡ Some o = sym (ap (λ b. cond b (Some e.1) (lookup test es)) is) ∙ found in
        first_weight e (set_value test es p) ∙ ap (λ n. weight e + n) (rest there same) ∙ sym (first_weight e es)

changed_tellable : (h : ℕ) (f : Object → Object) (s : State) → ((k : ℕ) (o : Object) → weight (k, f o) ≡ weight (k, o)) → tellable (changed_at h f s) ≡ tellable s
changed_tellable h f s same = by (object_at s h) refl
  where
    by : (x : Option Object) → object_at s h ≡ x → length (filter_map end_of_object (unwrap_or (option_map (λ o. set_value (is_at (nat_cmp h)) s.objects (f o)) x) s.objects)) ≡ tellable s
    by None none = refl
    by (Some o) some = replaced (is_at (nat_cmp h)) s.objects o (f o) some (λ k. same k o)

new_tellable : (o : Object) (s : State) → tellable (with_object o s) ≡ tellable s + weight (s.next, o)
new_tellable o s = collected_more end_of_object s.objects (s.next, o)

none_more : (n : ℕ) → n ≡ n + 0
none_more n = omega arith

array_weight : (k : ℕ) (f : ArrayState → ArrayState) (same : (a : ArrayState) → (f a).origin ≡ a.origin) (o : Object) → weight (k, change_array f o) ≡ weight (k, o)
array_weight k f same o = by o.array
  where
    origins : (a b : List ℕ) (x : Origin) → length (option_to_list (end_of_array k a x)) ≡ length (option_to_list (end_of_array k b x))
    origins a b (Captured user) = refl
    origins a b (Shared user) = refl
    origins a b Managed = refl

    by : (x : Option ArrayState) → length (option_to_list (option_and_then (λ a. end_of_array k a.block.bytes a.origin) (option_map f x)))
        ≡ length (option_to_list (option_and_then (λ a. end_of_array k a.block.bytes a.origin) x))
    by None = refl
    by (Some a) = ap (λ x. length (option_to_list (end_of_array k (f a).block.bytes x))) (same a) ∙ origins (f a).block.bytes a.block.bytes a.origin

made_tellable : (s : State) (kind : Option Kind) → IsSome kind → tellable (unwrap_or (option_map (λ kind. with_object (fresh kind None) s) kind) s) ≡ tellable s + 0
made_tellable s None some = absurd cc
made_tellable s (Some kind) some = new_tellable (fresh kind None) s

memory_weight : (k : ℕ) (elem : DataType) (count stride : ℕ) (origin : Origin) (bytes : List ℕ) → weight (k, fresh_array elem count stride origin bytes) ≡ one_if (gives_memory origin)
memory_weight k elem count stride (Captured user) bytes = refl
memory_weight k elem count stride (Shared user) bytes = refl
memory_weight k elem count stride Managed bytes = refl

taken_tellable : (h number len : ℕ) (name bytes : List ℕ) (s : State) (loan : Option ParameterLoan) → option_map_or (is_parameter_out name number len) loan false ≡ true →
    tellable (option_map_or (λ loan. take_in h name bytes loan s) loan s) ≡ tellable s + 0
unfolding take_in
taken_tellable h number len name bytes s None out = absurd cc
taken_tellable h number len name bytes s (Some loan) out =
    let first : State = changed_at h (end_parameter_loan loan.number) s in
    let second : State = changed_at h (set_staged (with_value name (value.Object ty.Array1D s.next))) first in
    new_tellable (taken_array loan bytes) second
    ∙ ap (λ n. n + 0) (changed_tellable h (set_staged (with_value name (value.Object ty.Array1D s.next))) first (λ k o. refl) ∙ changed_tellable h (end_parameter_loan loan.number) s (λ k o. refl))

-- the call makes one array more of memory that the application gave, or none
pub effect_tellable : (place : ℕ) (call : Call) (r : Reply) (s : Stored) → CanCarry s call r → tellable (effect place call r s.state) ≡ tellable s.state + one_if (takes_memory call r)
unfolding effect unmap_parameter
effect_tellable place (NewObject t subtype) (reply.Made made) s can = made_tellable s.state (kind_of t subtype) can.1
effect_tellable place (NewArray elem count stride origin bytes) (reply.Made made) s can =
    new_tellable (fresh_array elem count stride origin bytes) s.state ∙ ap (λ n. tellable s.state + n) (memory_weight s.state.next elem count stride origin bytes)
effect_tellable place (SetParameter h name v) reply.Done s can = changed_tellable h (set_staged (with_value name v)) s.state (λ k o. refl) ∙ none_more (tellable s.state)
effect_tellable place (UnsetParameter h name) reply.Done s can = changed_tellable h (set_staged (without_value name)) s.state (λ k o. refl) ∙ none_more (tellable s.state)
effect_tellable place (UnsetAll h) reply.Done s can = changed_tellable h (set_staged (λ _. [])) s.state (λ k o. refl) ∙ none_more (tellable s.state)
effect_tellable place (Commit h) reply.Done s can = changed_tellable h commit s.state (λ k o. refl) ∙ none_more (tellable s.state)
effect_tellable place (MapArray h) (reply.Lent number) s can = changed_tellable h (change_array (lent place)) s.state (λ k o. array_weight k (lent place) (λ a. refl) o) ∙ none_more (tellable s.state)
effect_tellable place (UnmapArray h number bytes) reply.Done s can = changed_tellable h (change_array (holding bytes)) s.state (λ k o. array_weight k (holding bytes) (λ a. refl) o) ∙ none_more (tellable s.state)
effect_tellable place (MapParameterArray h name elem count) (reply.Lent number) s can =
    changed_tellable h (lend_parameter (record { number = place; name = name; elem = elem; count = count })) s.state (λ k o. refl) ∙ none_more (tellable s.state)
effect_tellable place (UnmapParameterArray h name number bytes) (reply.Made made) s can =
    taken_tellable h number (length bytes) name bytes s.state (option_and_then (λ o. parameter_loan number o.parameter_loans) (object_at s.state h)) can.1
effect_tellable place (RenderFrame h) reply.Done s can = absurd can
effect_tellable place (DiscardFrame h) reply.Done s can = absurd can
effect_tellable place (MapFrame h channel) (reply.Mapped width height t rows) s can = absurd can
effect_tellable place (UnmapFrame h number) reply.Done s can = absurd can
effect_tellable place call r s can = none_more (tellable s.state)

-- a change that leaves the array of each object
pub plain_tellable : (h : ℕ) (f : Object → Object) (s : State) → ((o : Object) → (f o).array ≡ o.array) → tellable (changed_at h f s) ≡ tellable s
plain_tellable h f s same = changed_tellable h f s (λ k o. ap (λ x. length (option_to_list (option_and_then (λ a. end_of_array k a.block.bytes a.origin) x))) (same o))

-- what is collected of two parts is what is collected of all
two_parts : {X Y : Type 0} (f : X → Option Y) (p : X → Bool) (xs : List X) → length (filter_map f (filter p xs)) + length (filter_map f (filter (λ x. not (p x)) xs)) ≡ length (filter_map f xs)
two_parts f p [] = refl
two_parts {X} {Y} f p (x ∷ xs) = by (p x) (f x) refl (two_parts f p xs)
  where
    by : (t : Bool) (y : Option Y) → f x ≡ y → length (filter_map f (filter p xs)) + length (filter_map f (filter (λ x. not (p x)) xs)) ≡ length (filter_map f xs) →
        length (filter_map f (cond t (x ∷ filter p xs) (filter p xs))) + length (filter_map f (cond (not t) (x ∷ filter (λ x. not (p x)) xs) (filter (λ x. not (p x)) xs))) ≡ length (cons_option (f x) (filter_map f xs))
    by true None is rest = subst (λ y. length (cons_option y (filter_map f (filter p xs))) + length (filter_map f (filter (λ x. not (p x)) xs)) ≡ length (cons_option y (filter_map f xs))) (sym is) rest
    by true (Some y) is rest = subst (λ z. length (cons_option z (filter_map f (filter p xs))) + length (filter_map f (filter (λ x. not (p x)) xs)) ≡ length (cons_option z (filter_map f xs))) (sym is) (omega (arith, rest))
    by false None is rest = subst (λ y. length (filter_map f (filter p xs)) + length (cons_option y (filter_map f (filter (λ x. not (p x)) xs))) ≡ length (cons_option y (filter_map f xs))) (sym is) rest
    by false (Some y) is rest = subst (λ z. length (filter_map f (filter p xs)) + length (cons_option z (filter_map f (filter (λ x. not (p x)) xs))) ≡ length (cons_option z (filter_map f xs))) (sym is) (omega (arith, rest))

-- of whom the client is told, and is still to be told, are those of whom it was to be told
pub fewer_told : (old now : Stored) → IsLeft old now → tellable now.state + length (filter_map end_of_object (gone old.state now.state)) ≡ tellable old.state
fewer_told old now left =
    let same : gone old.state now.state ≡ filter (λ (e : ℕ × Object). not (is_some (at e.0 now.state.objects))) old.state.objects =
    ap (λ (p : ℕ × Object → Bool). filter p old.state.objects) (λ i e. not (has_key e.0 now.state.objects i)) in
    let here = ap (λ (os : List (ℕ × Object)). length (filter_map end_of_object os)) left.kept in
    let away = ap (λ (os : List (ℕ × Object)). length (filter_map end_of_object os)) same in
    let parts = two_parts end_of_object (λ (e : ℕ × Object). is_some (at e.0 now.state.objects)) old.state.objects in
    omega (arith, here, away, parts)
