-- What is sound stays sound where what it names keeps its kind, and what is sound names what stands lower.
use Rattle.std.proofs.Common.{ℕ, ◌==◌, ◌≡◌, ◌<◌, ◌∙◌, ◌⊎◌, inl, inr, true, List, [], ◌∷◌, ◌++◌, All, Option, Some, None, map, refl, sym, ap, subst}
use Rattle.std.specs.Option.{IsSomeAnd, MatchOption, option_map, option_or}
use Rattle.std.proofs.lemmas.Bool.{cases_eq, eq-eqb, eqb-true, or_cases, or_left, or_right}
use Rattle.std.proofs.lemmas.List.Elements.{All-nil, All-cons, All-head, All-tail}
use Rattle.std.proofs.lemmas.List.Folds.{list_any-append}
use Rattle.dev_types.specs.declared.data_types.DataType.{DataType}
use Rattle.dev_types.specs.DataTypes.{is_element_type}
use Rattle.dev_types.specs.declared.values.Value.{Value}
use Rattle.kind_tables.specs.Kinds.{type_of_kind}
use Rattle.kind_tables.specs.Ranks.{rank_of}
use Rattle.kind_tables.specs.Rows.{row_of}
use Rattle.kind_tables.specs.SceneObjects.{object_in, objects_in, objects_of}
use Rattle.kind_tables.specs.declared.kinds.Kind.{Kind}
use Rattle.kind_tables.specs.declared.kinds.Kind.TheVariants.{Array}
use Rattle.kind_tables.specs.declared.rows.Row.{Row}
use Rattle.seq_model.proofs.Changes.{changed_here, others_unchanged}
use Rattle.seq_model.proofs.Came.{added, end_is}
use Rattle.seq_model.proofs.Keys.{at, at_append, at_map}
use Rattle.seq_model.proofs.Tables.{element_lower, takes_lower}
use Rattle.seq_model.specs.Life.{has, names_of, objects_of_elements}
use Rattle.seq_model.specs.Soundness.{AllFit, AllSound, ArrayFits, Fits, IsSound, NamesFitting}
use Rattle.kind_tables.specs.Typed.{Takes}
use Rattle.seq_model.specs.State.{ArrayState, Object, Phase, Flight, State, changed_at, object_at, with_object}
use Rattle.seq_model.specs.Steps.{end_flight, end_flights, set_phase}

-- the object k, if it is there, is still there, with its kind
abbrev pub KeepsAt : State → State → ℕ → Type 0
KeepsAt s t k = (o : Object) → object_at s k ≡ Some o → IsSomeAnd (object_at t k) (λ p. p.kind ≡ o.kind)

-- what holds of the kind of an object that is there still holds
kind_kept : (Q : Kind → Type 0) (s t : State) (k : ℕ) → KeepsAt s t k → IsSomeAnd (object_at s k) (λ o. Q o.kind) → IsSomeAnd (object_at t k) (λ o. Q o.kind)
kind_kept Q s t k keeps holds = by (object_at s k) refl holds
  where
    then_ : (o : Object) (y : Option Object) → Q o.kind → IsSomeAnd y (λ p. p.kind ≡ o.kind) → IsSomeAnd y (λ p. Q p.kind)
    then_ o None q same = absurd same
    then_ o (Some p) q same = subst Q (sym same) q

    by : (x : Option Object) → object_at s k ≡ x → IsSomeAnd x (λ o. Q o.kind) → IsSomeAnd (object_at t k) (λ o. Q o.kind)
    by None is q = absurd q
    by (Some o) is q = then_ o (object_at t k) q (keeps o is)

pub has_head : (k : ℕ) (ks : List ℕ) → has k (k ∷ ks) ≡ true
has_head k ks = or_left (k == k) (has k ks) (eq-eqb k k refl)

pub has_tail : (k j : ℕ) (ks : List ℕ) → has k ks ≡ true → has k (j ∷ ks) ≡ true
has_tail k j ks is = or_right (j == k) (has k ks) is

has_left : (k : ℕ) (js ks : List ℕ) → has k js ≡ true → has k (js ++ ks) ≡ true
has_left k js ks is = list_any-append (λ j. j == k) js ks ∙ or_left (has k js) (has k ks) is

has_right : (k : ℕ) (js ks : List ℕ) → has k ks ≡ true → has k (js ++ ks) ≡ true
has_right k js ks is = list_any-append (λ j. j == k) js ks ∙ or_right (has k js) (has k ks) is

has_either : (k : ℕ) (js ks : List ℕ) → has k (js ++ ks) ≡ true → (has k js ≡ true) ⊎ (has k ks ≡ true)
has_either k js ks is = or_cases (has k js) (has k ks) (sym (list_any-append (λ j. j == k) js ks) ∙ is)

-- values that fit still fit
value_kept : (s t : State) (kind : Kind) (name : List ℕ) (v : Value) (x : Option ℕ) → object_in v ≡ x → ((k : ℕ) → x ≡ Some k → KeepsAt s t k) → Fits s kind name v → Fits t kind name v
value_kept s t kind name v x is keeps fits = record { typed = fits.typed; named = subst (λ x. MatchOption x (Unit {0}) (NamesFitting t kind name)) (sym is) (by x keeps (subst (λ x. MatchOption x (Unit {0}) (NamesFitting s kind name)) is fits.named)) }
  where
    by : (x : Option ℕ) → ((k : ℕ) → x ≡ Some k → KeepsAt s t k) → MatchOption x (Unit {0}) (NamesFitting s kind name) → MatchOption x (Unit {0}) (NamesFitting t kind name)
    by None keeps named = named
    by (Some k) keeps named = kind_kept (λ named. IsSomeAnd (row_of kind name) (λ row. Takes row named)) s t k (keeps k refl) named

pub values_kept : (s t : State) (kind : Kind) (values : List (List ℕ × Value)) → ((k : ℕ) → has k (objects_of values) ≡ true → KeepsAt s t k) → AllFit s kind values → AllFit t kind values
values_kept s t kind [] keeps fit = All-nil (λ (entry : List ℕ × Value). Fits t kind entry.0 entry.1)
values_kept s t kind (e ∷ values) keeps fit =
    All-cons (λ (entry : List ℕ × Value). Fits t kind entry.0 entry.1) e values
    (value_kept s t kind e.0 e.1 (object_in e.1) refl (λ k is. keeps k (first k is)) (All-head (λ (entry : List ℕ × Value). Fits s kind entry.0 entry.1) e values fit))
    (values_kept s t kind values (λ k is. keeps k (later (object_in e.1) k refl is)) (All-tail (λ (entry : List ℕ × Value). Fits s kind entry.0 entry.1) e values fit))
  where
    first : (k : ℕ) → object_in e.1 ≡ Some k → has k (objects_of (e ∷ values)) ≡ true
    first k is = rw is (has_head k (objects_of values))

    later : (x : Option ℕ) (k : ℕ) → object_in e.1 ≡ x → has k (objects_of values) ≡ true → has k (objects_of (e ∷ values)) ≡ true
    later None k is there = rw is there
    later (Some j) k is there = rw is (has_tail k j (objects_of values) there)

-- elements too
elements_kept : (s t : State) (elem : DataType) (named : List (ℕ × ℕ)) → ((k : ℕ) → has k (map (λ (n : ℕ × ℕ). n.1) named) ≡ true → KeepsAt s t k) →
    All (λ n. IsSomeAnd (object_at s n.1) (λ o. type_of_kind o.kind ≡ elem)) named → All (λ n. IsSomeAnd (object_at t n.1) (λ o. type_of_kind o.kind ≡ elem)) named
elements_kept s t elem [] keeps fit = All-nil (λ (n : ℕ × ℕ). IsSomeAnd (object_at t n.1) (λ o. type_of_kind o.kind ≡ elem))
elements_kept s t elem (n ∷ named) keeps fit =
    All-cons (λ (n : ℕ × ℕ). IsSomeAnd (object_at t n.1) (λ o. type_of_kind o.kind ≡ elem)) n named
    (kind_kept (λ kind. type_of_kind kind ≡ elem) s t n.1 (keeps n.1 (has_head n.1 (map (λ (n : ℕ × ℕ). n.1) named))) (All-head (λ (n : ℕ × ℕ). IsSomeAnd (object_at s n.1) (λ o. type_of_kind o.kind ≡ elem)) n named fit))
    (elements_kept s t elem named (λ k is. keeps k (has_tail k n.1 (map (λ (n : ℕ × ℕ). n.1) named) is)) (All-tail (λ (n : ℕ × ℕ). IsSomeAnd (object_at s n.1) (λ o. type_of_kind o.kind ≡ elem)) n named fit))

array_kept : (s t : State) (kind : Kind) (array : Option ArrayState) → ((k : ℕ) → has k (objects_of_elements array) ≡ true → KeepsAt s t k) → ArrayFits s kind array → ArrayFits t kind array
array_kept s t kind None keeps fits = fits
array_kept s t kind (Some a) keeps fits = (fits.0, fits.1, elements_kept s t a.block.elem (objects_in a.block) keeps fits.2)

in_staged : (o : Object) (k : ℕ) → has k (objects_of o.staged) ≡ true → has k (names_of o) ≡ true
in_staged o k is = has_left k (objects_of o.staged ++ objects_of o.committed) (objects_of_elements o.array) (has_left k (objects_of o.staged) (objects_of o.committed) is)

in_committed : (o : Object) (k : ℕ) → has k (objects_of o.committed) ≡ true → has k (names_of o) ≡ true
in_committed o k is = has_left k (objects_of o.staged ++ objects_of o.committed) (objects_of_elements o.array) (has_right k (objects_of o.staged) (objects_of o.committed) is)

pub in_elements : (o : Object) (k : ℕ) → has k (objects_of_elements o.array) ≡ true → has k (names_of o) ≡ true
in_elements o k is = has_right k (objects_of o.staged ++ objects_of o.committed) (objects_of_elements o.array) is

-- an object is sound in another state where all that it names is kept
pub sound_kept : (s t : State) (o : Object) → ((k : ℕ) → has k (names_of o) ≡ true → KeepsAt s t k) → IsSound s o → IsSound t o
sound_kept s t o keeps sound = record {
  staged = values_kept s t o.kind o.staged (λ k is. keeps k (in_staged o k is)) sound.staged;
  committed = values_kept s t o.kind o.committed (λ k is. keeps k (in_committed o k is)) sound.committed;
  loans = sound.loans;
  array = array_kept s t o.kind o.array (λ k is. keeps k (in_elements o k is)) sound.array;
}

-- what a sound object names is there, and stands lower
abbrev pub IsLower : State → Kind → ℕ → Type 0
IsLower s kind k = IsSomeAnd (object_at s k) (λ o. rank_of o.kind < rank_of kind)

pub fitting_is_lower : (s : State) (kind : Kind) (name : List ℕ) (k : ℕ) → NamesFitting s kind name k → IsLower s kind k
fitting_is_lower s kind name k fits = by (object_at s k) (row_of kind name) refl fits
  where
    by : (x : Option Object) (y : Option Row) → row_of kind name ≡ y → IsSomeAnd x (λ o. IsSomeAnd y (λ row. Takes row o.kind)) → IsSomeAnd x (λ o. rank_of o.kind < rank_of kind)
    by None y is fits = absurd fits
    by (Some o) None is fits = absurd fits
    by (Some o) (Some row) is fits = takes_lower kind o.kind name row is fits

values_are_lower : (s : State) (kind : Kind) (values : List (List ℕ × Value)) (k : ℕ) → AllFit s kind values → has k (objects_of values) ≡ true → IsLower s kind k
values_are_lower s kind [] k fit is = absurd cc
values_are_lower s kind (e ∷ values) k fit is =
    by (object_in e.1) refl (λ later. values_are_lower s kind values k (All-tail (λ (entry : List ℕ × Value). Fits s kind entry.0 entry.1) e values fit) later)
  where
    here : Fits s kind e.0 e.1
    here = All-head (λ (entry : List ℕ × Value). Fits s kind entry.0 entry.1) e values fit

    by : (x : Option ℕ) → object_in e.1 ≡ x → (has k (objects_of values) ≡ true → IsLower s kind k) → IsLower s kind k
    by None test rest = rest (rw test at is)
    by (Some j) test rest = of (or_cases (j == k) (has k (objects_of values)) (rw test at is))
      where
        of : ((j == k) ≡ true) ⊎ (has k (objects_of values) ≡ true) → IsLower s kind k
        of (inl same) =
            subst (IsLower s kind) (eqb-true j k same)
            (fitting_is_lower s kind e.0 j (subst (λ x. MatchOption x (Unit {0}) (NamesFitting s kind e.0)) test here.named))
        of (inr later) = rest later

elements_are_lower : (s : State) (elem : DataType) (named : List (ℕ × ℕ)) (k : ℕ) → is_element_type elem ≡ true →
    All (λ n. IsSomeAnd (object_at s n.1) (λ o. type_of_kind o.kind ≡ elem)) named → has k (map (λ (n : ℕ × ℕ). n.1) named) ≡ true → IsLower s (Array elem) k
elements_are_lower s elem [] k may fit is = absurd cc
elements_are_lower s elem (n ∷ named) k may fit is =
    by (or_cases (n.1 == k) (has k (map (λ (n : ℕ × ℕ). n.1) named)) is)
    (λ later. elements_are_lower s elem named k may (All-tail (λ (n : ℕ × ℕ). IsSomeAnd (object_at s n.1) (λ o. type_of_kind o.kind ≡ elem)) n named fit) later)
  where
    lower : (x : Option Object) → IsSomeAnd x (λ o. type_of_kind o.kind ≡ elem) → IsSomeAnd x (λ o. rank_of o.kind < rank_of (Array elem))
    lower None has_type = absurd has_type
    lower (Some o) has_type = element_lower elem o.kind may has_type

    by : ((n.1 == k) ≡ true) ⊎ (has k (map (λ (n : ℕ × ℕ). n.1) named) ≡ true) → (has k (map (λ (n : ℕ × ℕ). n.1) named) ≡ true → IsLower s (Array elem) k) → IsLower s (Array elem) k
    by (inl same) rest =
        subst (IsLower s (Array elem)) (eqb-true n.1 k same) (lower (object_at s n.1) (All-head (λ (n : ℕ × ℕ). IsSomeAnd (object_at s n.1) (λ o. type_of_kind o.kind ≡ elem)) n named fit))
    by (inr later) rest = rest later

array_is_lower : (s : State) (kind : Kind) (array : Option ArrayState) (k : ℕ) → ArrayFits s kind array → has k (objects_of_elements array) ≡ true → IsLower s kind k
array_is_lower s kind None k fits is = absurd cc
array_is_lower s kind (Some a) k fits is = subst (λ kind. IsLower s kind k) (sym fits.0) (elements_are_lower s a.block.elem (objects_in a.block) k fits.1 fits.2 is)

pub names_are_lower : (s : State) (o : Object) (k : ℕ) → IsSound s o → has k (names_of o) ≡ true → IsLower s o.kind k
names_are_lower s o k sound is = by (has_either k (objects_of o.staged ++ objects_of o.committed) (objects_of_elements o.array) is)
  where
    of : (has k (objects_of o.staged) ≡ true) ⊎ (has k (objects_of o.committed) ≡ true) → IsLower s o.kind k
    of (inl staged) = values_are_lower s o.kind o.staged k sound.staged staged
    of (inr committed) = values_are_lower s o.kind o.committed k sound.committed committed

    by : (has k (objects_of o.staged ++ objects_of o.committed) ≡ true) ⊎ (has k (objects_of_elements o.array) ≡ true) → IsLower s o.kind k
    by (inl values) = of (has_either k (objects_of o.staged) (objects_of o.committed) values)
    by (inr elements) = array_is_lower s o.kind o.array k sound.array elements

-- a sound state, in the form in which it is used
pub sound_at : (s : State) (h : ℕ) (o : Object) → AllSound s → object_at s h ≡ Some o → IsSound s o
sound_at s h o all found = subst (λ x. MatchOption x (Unit {0}) (IsSound s)) found (all h)

pub all_sound : (s : State) → ((h : ℕ) (o : Object) → object_at s h ≡ Some o → IsSound s o) → AllSound s
all_sound s each h = by (object_at s h) refl
  where
    by : (x : Option Object) → object_at s h ≡ x → MatchOption x (Unit {0}) (IsSound s)
    by None is = tt
    by (Some o) is = each h o is

-- one object that changes and stays sound
some_kind : (s : State) (k : ℕ) (o : Object) (x : Option Object) → x ≡ Some o → IsSomeAnd x (λ p. p.kind ≡ o.kind)
some_kind s k o x is = subst (λ x. IsSomeAnd x (λ p. p.kind ≡ o.kind)) (sym is) refl

pub changed_keeps : (h : ℕ) (f : Object → Object) (s : State) → ((o : Object) → (f o).kind ≡ o.kind) → (k : ℕ) → KeepsAt s (changed_at h f s) k
changed_keeps h f s same k o found = by (cases_eq k h)
  where
    by : (k ≡ h) ⊎ (k ≡ h → ⊥) → IsSomeAnd (object_at (changed_at h f s) k) (λ p. p.kind ≡ o.kind)
    by (inl here) =
        let now : object_at (changed_at h f s) k ≡ Some (f o) =
        ap (object_at (changed_at h f s)) here ∙ changed_here h f s ∙ ap (option_map f) (ap (object_at s) (sym here) ∙ found) in
        subst (λ x. IsSomeAnd x (λ p. p.kind ≡ o.kind)) (sym now) (same o)
    by (inr apart) = some_kind s k o (object_at (changed_at h f s) k) (others_unchanged h k f s apart ∙ found)

pub changed_sound : (h : ℕ) (f : Object → Object) (s : State) → ((o : Object) → (f o).kind ≡ o.kind) → ((o : Object) → object_at s h ≡ Some o → IsSound s o → IsSound s (f o)) →
    AllSound s → AllSound (changed_at h f s)
changed_sound h f s same stays all = all_sound (changed_at h f s) each
  where
    kept : (o : Object) → IsSound s o → IsSound (changed_at h f s) o
    kept o sound = sound_kept s (changed_at h f s) o (λ k is. changed_keeps h f s same k) sound

    here : (x : Option Object) (p : Object) → object_at s h ≡ x → option_map f x ≡ Some p → IsSound (changed_at h f s) p
    here None p was is = absurd cc
    here (Some o) p was is = let value : f o ≡ p = cc in subst (IsSound (changed_at h f s)) value (kept (f o) (stays o was (sound_at s h o all was)))

    each : (k : ℕ) (p : Object) → object_at (changed_at h f s) k ≡ Some p → IsSound (changed_at h f s) p
    each k p found = by (cases_eq k h)
      where
        by : (k ≡ h) ⊎ (k ≡ h → ⊥) → IsSound (changed_at h f s) p
        by (inl at_h) = here (object_at s h) p refl (sym (changed_here h f s) ∙ ap (object_at (changed_at h f s)) (sym at_h) ∙ found)
        by (inr apart) = kept p (sound_at s k p all (sym (others_unchanged h k f s apart) ∙ found))

-- one object more
pub new_keeps : (o : Object) (s : State) (k : ℕ) → KeepsAt s (with_object o s) k
new_keeps o s k p found =
    some_kind s k p (object_at (with_object o s) k) (at_append k s.objects ((s.next, o) ∷ []) ∙ ap (λ x. option_or x (at k ((s.next, o) ∷ []))) found)

pub new_sound : (o : Object) (s : State) → IsSound s o → AllSound s → AllSound (with_object o s)
new_sound o s sound all = all_sound (with_object o s) each
  where
    kept : (p : Object) → IsSound s p → IsSound (with_object o s) p
    kept p now = sound_kept s (with_object o s) p (λ k is. new_keeps o s k) now

    each : (k : ℕ) (p : Object) → object_at (with_object o s) k ≡ Some p → IsSound (with_object o s) p
    each k p found = by (added o s k p found)
      where
        by : (object_at s k ≡ Some p) ⊎ ((k ≡ s.next) × (p ≡ o)) → IsSound (with_object o s) p
        by (inl old) = kept p (sound_at s k p all old)
        by (inr new) = subst (IsSound (with_object o s)) (sym new.1) (kept o sound)

-- flights that end
end_sound : (u : ℕ) (phase : Phase) (s : State) (o : Object) → IsSound s o → IsSound s (end_flight u phase o)
end_sound u phase s o sound = by (end_is u phase o)
  where
    by : (end_flight u phase o ≡ o) ⊎ ((o.phase ≡ Flight u) × (end_flight u phase o ≡ set_phase phase o)) → IsSound s (end_flight u phase o)
    by (inl same) = subst (IsSound s) (sym same) sound
    by (inr ended) = subst (IsSound s) (sym ended.1) (record { staged = sound.staged; committed = sound.committed; loans = sound.loans; array = sound.array })

end_kind : (u : ℕ) (phase : Phase) (o : Object) → (end_flight u phase o).kind ≡ o.kind
end_kind u phase o = by (end_is u phase o)
  where
    by : (end_flight u phase o ≡ o) ⊎ ((o.phase ≡ Flight u) × (end_flight u phase o ≡ set_phase phase o)) → (end_flight u phase o).kind ≡ o.kind
    by (inl same) = ap (λ (p : Object). p.kind) same
    by (inr ended) = ap (λ (p : Object). p.kind) ended.1

pub ended_sound : (u : ℕ) (phase : Phase) (left : List ℕ) (s : State) → AllSound s → AllSound (record (end_flights u phase s) { stopped = left })
unfolding end_flights
ended_sound u phase left s all = all_sound (record (end_flights u phase s) { stopped = left }) each
  where
    keeps : (k : ℕ) → KeepsAt s (record (end_flights u phase s) { stopped = left }) k
    keeps k o found =
        subst (λ x. IsSomeAnd x (λ p. p.kind ≡ o.kind)) (sym (at_map (end_flight u phase) k s.objects ∙ ap (option_map (end_flight u phase)) found)) (end_kind u phase o)

    from : (k : ℕ) (x : Option Object) (p : Object) → object_at s k ≡ x → option_map (end_flight u phase) x ≡ Some p → IsSound (record (end_flights u phase s) { stopped = left }) p
    from k None p was is = absurd cc
    from k (Some o) p was is =
        let value : end_flight u phase o ≡ p = cc in
        subst (IsSound (record (end_flights u phase s) { stopped = left })) value
        (sound_kept s (record (end_flights u phase s) { stopped = left }) (end_flight u phase o) (λ k is. keeps k) (end_sound u phase s o (sound_at s k o all was)))

    each : (k : ℕ) (p : Object) → object_at (record (end_flights u phase s) { stopped = left }) k ≡ Some p → IsSound (record (end_flights u phase s) { stopped = left }) p
    each k p found = from k (object_at s k) p refl (sym (at_map (end_flight u phase) k s.objects) ∙ found)
