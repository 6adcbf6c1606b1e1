-- What the objects of a legal history name is there and stands lower, also as a scene sees them; and which objects live.
use Rattle.std.proofs.Common.{ℕ, ◌≡◌, ◌<◌, ◌∙◌, true, List, [], ◌∷◌, All, Option, Some, None, map, refl, sym, ap, subst}
use Rattle.std.specs.BTreeMap.{is_at}
use Rattle.std.specs.Cmp.Lexicographic.{slice_cmp}
use Rattle.std.specs.List.{filter_map}
use Rattle.std.specs.Option.{IfSome, IsSomeAnd, MatchOption, option_and_then, option_map}
use Rattle.std.specs.Ordering.{nat_cmp}
use Rattle.std.proofs.lemmas.List.Elements.{All-nil, All-cons, All-append, All-map, All-weaker}
use Rattle.std.proofs.lemmas.Map.Entries.{All-lookup}
use Rattle.dev_types.specs.declared.values.Value.{Value}
use Rattle.kind_tables.specs.Ranks.{rank_of}
use Rattle.kind_tables.specs.Rows.{rows_of}
use Rattle.kind_tables.specs.SceneObjects.{SceneObject, object_in, value_named}
use Rattle.kind_tables.specs.WalkRanks.{AreRanked, StandsBelow, names_of as scene_names}
use Rattle.kind_tables.specs.Walks.{named_elements, named_parameters}
use Rattle.kind_tables.specs.declared.kinds.Kind.{Kind}
use Rattle.kind_tables.specs.declared.rows.Row.{Row}
use Rattle.seq_model.proofs.Handles.{rises}
use Rattle.seq_model.proofs.Keys.{all_from_at, at_map}
use Rattle.seq_model.proofs.Sound.{IsLower, fitting_is_lower, has_head, has_tail, in_elements, names_are_lower, sound_at}
use Rattle.seq_model.proofs.SoundHistories.{legal_is_sound}
use Rattle.seq_model.specs.Histories.{History}
use Rattle.seq_model.specs.Legal.{Legal}
use Rattle.seq_model.specs.Life.{has, names_of, objects_of_elements}
use Rattle.seq_model.specs.Soundness.{AllFit, Fits, IsSound, NamesFitting}
use Rattle.seq_model.specs.State.{ArrayState, Object, State, object_at, scene_object, scene_objects}
use Rattle.seq_model.specs.Steps.{after}

-- what holds of each number that a list has holds of all its items
all_from_has : (P : ℕ → Type 0) (ks : List ℕ) → ((k : ℕ) → has k ks ≡ true → P k) → All P ks
all_from_has P [] each = All-nil P
all_from_has P (k ∷ ks) each = All-cons P k ks (each k (has_head k ks)) (all_from_has P ks (λ j is. each j (has_tail j k ks is)))

pub names_stand_lower : (history : History) → Legal history →
    All (λ entry. All (λ h. IsSomeAnd (object_at (after history).state h) (λ named. rank_of named.kind < rank_of entry.1.kind)) (names_of entry.1)) (after history).state.objects
names_stand_lower history legal =
    all_from_at (λ (entry : ℕ × Object). All (λ h. IsSomeAnd (object_at (after history).state h) (λ named. rank_of named.kind < rank_of entry.1.kind)) (names_of entry.1))
    1 (after history).state.next (after history).state.objects (rises history)
    (λ h o found. all_from_has (IsLower (after history).state o.kind) (names_of o) (λ k is. names_are_lower (after history).state o k (sound_at (after history).state h o (legal_is_sound history legal) found) is))

-- as a scene sees them
stands_below : (s : State) (kind : Kind) (k : ℕ) → IsLower s kind k → StandsBelow (scene_objects s) (rank_of kind) k
stands_below s kind k low = subst (λ x. MatchOption x (Unit {0}) (λ (o : SceneObject). rank_of o.kind < rank_of kind)) (sym (at_map scene_object k s.objects)) (by (object_at s k) low)
  where
    by : (x : Option Object) → IsSomeAnd x (λ o. rank_of o.kind < rank_of kind) → MatchOption (option_map scene_object x) (Unit {0}) (λ (o : SceneObject). rank_of o.kind < rank_of kind)
    by None low = absurd low
    by (Some o) low = low

abbrev IsLowerValue : State → Kind → Value → Type 0
IsLowerValue s kind v = MatchOption (object_in v) (Unit {0}) (IsLower s kind)

lower_value : (s : State) (kind : Kind) (name : List ℕ) (x : Option ℕ) → MatchOption x (Unit {0}) (NamesFitting s kind name) → MatchOption x (Unit {0}) (IsLower s kind)
lower_value s kind name None named = tt
lower_value s kind name (Some k) named = fitting_is_lower s kind name k named

all_filter_map : {X : Type 0} (P : ℕ → Type 0) (f : X → Option ℕ) (xs : List X) → ((x : X) (k : ℕ) → f x ≡ Some k → P k) → All P (filter_map f xs)
all_filter_map P f [] each = All-nil P
all_filter_map P f (x ∷ xs) each = by (f x) refl (all_filter_map P f xs each)
  where
    by : (y : Option ℕ) → f x ≡ y → All P (filter_map f xs) → All P (filter_map f (x ∷ xs))
    by None is rest = rw is rest
    by (Some k) is rest = rw is (All-cons P k (filter_map f xs) (each x k is) rest)

parameters_stand_lower : (s : State) (o : Object) → AllFit s o.kind o.committed → All (StandsBelow (scene_objects s) (rank_of o.kind)) (named_parameters (scene_object o))
parameters_stand_lower s o fit =
    all_filter_map (StandsBelow (scene_objects s) (rank_of o.kind)) (λ (row : List ℕ × Row). option_and_then object_in (value_named row.0 o.committed)) (rows_of o.kind)
    (λ row k is. by row k (value_named row.0 o.committed) refl is)
  where
    lower : All (λ (entry : List ℕ × Value). IsLowerValue s o.kind entry.1) o.committed
    lower =
        All-weaker (λ (entry : List ℕ × Value). Fits s o.kind entry.0 entry.1) (λ (entry : List ℕ × Value). IsLowerValue s o.kind entry.1)
        (λ entry fits. lower_value s o.kind entry.0 (object_in entry.1) fits.named) o.committed fit

    by : (row : List ℕ × Row) (k : ℕ) (x : Option Value) → value_named row.0 o.committed ≡ x → option_and_then object_in (value_named row.0 o.committed) ≡ Some k → StandsBelow (scene_objects s) (rank_of o.kind) k
    by row k None is named = let none : None ≡ Some k = sym (ap (option_and_then object_in) is) ∙ named in absurd cc
    by row k (Some v) is named =
        let here : IfSome (value_named row.0 o.committed) (IsLowerValue s o.kind) = All-lookup (IsLowerValue s o.kind) (is_at (slice_cmp nat_cmp row.0)) o.committed lower in
        let value : IsLowerValue s o.kind v = subst (λ x. IfSome x (IsLowerValue s o.kind)) is here in
        let object : object_in v ≡ Some k = sym (ap (option_and_then object_in) is) ∙ named in
        stands_below s o.kind k (subst (λ x. MatchOption x (Unit {0}) (IsLower s o.kind)) object value)

elements_stand_lower : (s : State) (o : Object) (x : Option ArrayState) → o.array ≡ x → All (IsLower s o.kind) (objects_of_elements o.array) →
    All (StandsBelow (scene_objects s) (rank_of o.kind)) (map (λ (named : ℕ × ℕ). named.1) (named_elements (scene_object o)))
elements_stand_lower s o x is low =
    All-weaker (IsLower s o.kind) (StandsBelow (scene_objects s) (rank_of o.kind)) (λ k. stands_below s o.kind k) (map (λ (named : ℕ × ℕ). named.1) (named_elements (scene_object o)))
    (by x is low)
  where
    by : (x : Option ArrayState) → o.array ≡ x → All (IsLower s o.kind) (objects_of_elements o.array) → All (IsLower s o.kind) (map (λ (named : ℕ × ℕ). named.1) (named_elements (scene_object o)))
    by None is low = rw is (All-nil (IsLower s o.kind))
    by (Some a) is low = rw is (rw is at low)

object_stands_higher : (s : State) (o : Object) → IsSound s o → All (StandsBelow (scene_objects s) (rank_of o.kind)) (scene_names (scene_object o))
object_stands_higher s o sound =
    All-append (StandsBelow (scene_objects s) (rank_of o.kind)) (map (λ (named : ℕ × ℕ). named.1) (named_elements (scene_object o))) (named_parameters (scene_object o))
    (elements_stand_lower s o o.array refl (all_from_has (IsLower s o.kind) (objects_of_elements o.array) (λ k is. names_are_lower s o k sound (in_elements o k is))))
    (parameters_stand_lower s o sound.committed)

pub scenes_are_ranked : (history : History) → Legal history → AreRanked (scene_objects (after history).state)
scenes_are_ranked history legal =
    All-map (λ (entry : ℕ × SceneObject). All (StandsBelow (scene_objects (after history).state) (rank_of entry.1.kind)) (scene_names entry.1)) (λ (entry : ℕ × Object). (entry.0, scene_object entry.1)) (after history).state.objects
    (all_from_at (λ (entry : ℕ × Object). All (StandsBelow (scene_objects (after history).state) (rank_of entry.1.kind)) (scene_names (scene_object entry.1)))
    1 (after history).state.next (after history).state.objects (rises history)
    (λ h o found. object_stands_higher (after history).state o (sound_at (after history).state h o (legal_is_sound history legal) found)))
