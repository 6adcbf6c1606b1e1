-- Each call that had its way leaves sound what was sound.
use Rattle.std.proofs.Common.{ℕ, zero, suc, ◌*◌, ◌≡◌, ◌∙◌, Bool, true, false, not, List, [], ◌∷◌, All, Ordering, Less, Equal, Greater, Option, Some, None, refl, sym, ap, subst, drop}
use Rattle.std.specs.Prelude.{cond, ◌||◌, ◌&&◌}
use Rattle.std.specs.Cmp.Lexicographic.{slice_cmp}
use Rattle.std.specs.Int.{byte_worth, from_le_bytes, sum_through, w64}
use Rattle.std.specs.List.{filter_map, range_with_len, slice_index}
use Rattle.std.specs.Map.{remove_entry}
use Rattle.std.specs.Option.{IsSomeAnd, MatchOption, is_none, is_some, option_and_then, option_map, option_map_or}
use Rattle.std.specs.Ordering.{match_ordering, nat_cmp}
use Rattle.std.proofs.lemmas.Bool.{and_parts, not-false, or_parts}
use Rattle.std.proofs.lemmas.List.Elements.{All-nil, All-cons, All-drop, All-head, All-replicate, All-tail, All-take}
use Rattle.std.proofs.lemmas.Map.Lookups.{exact_bytes}
use Rattle.dev_types.specs.Blocks.{element_of, part_of}
use Rattle.dev_types.specs.DataTypes.{byte_size, is_element_type, is_object_type}
use Rattle.dev_types.specs.ValueBytes.{is_well_typed, type_of, value_of}
use Rattle.dev_types.specs.declared.data_types.DataType.{DataType}
use Rattle.dev_types.specs.declared.data_types.DataType.TheVariants as ty
use Rattle.dev_types.specs.declared.refusals.Refused.TheVariants.{BadHandle, BadType, UnknownObjectParameter, WrongKind}
use Rattle.dev_types.specs.declared.values.Value.{Value}
use Rattle.dev_types.specs.declared.values.Value.TheVariants as value
use Rattle.kind_tables.specs.Kinds.{is_same_type, type_of_kind}
use Rattle.kind_tables.specs.Rows.{row_of}
use Rattle.kind_tables.specs.SceneObjects.{object_in, objects_in, with_value}
use Rattle.kind_tables.specs.declared.kinds.Kind.{Kind}
use Rattle.kind_tables.specs.declared.kinds.Kind.TheVariants.{Array}
use Rattle.kind_tables.specs.declared.rows.Row.{Row}
use Rattle.seq_model.proofs.Granted.{AllNone, all_none, does_not_apply}
use Rattle.seq_model.proofs.Sound.{sound_at}
use Rattle.seq_model.proofs.Tables.{same_type}
use Rattle.seq_model.specs.Refusals.{dead, has_elements, has_type, object_of_value, permits, refusal, refusals_of, refusals_of_map_parameter, refusals_of_set, row_at, takes_arrays_of, wrong_kind, wrong_value}
use Rattle.seq_model.specs.Soundness.{AllSound, ArrayFits, Fits, IsSound, LoanFits, NamesFitting}
use Rattle.kind_tables.specs.Typed.{Takes}
use Rattle.seq_model.specs.State.{ArrayState, Object, object_at}
use Rattle.seq_model.specs.Steps.{Past, zeros}
use Rattle.seq_model.specs.declared.calls.Call.TheVariants.{SetParameter, MapParameterArray}

-- maps of parameters
pub all_with_value : (P : List ℕ × Value → Type 0) (name : List ℕ) (v : Value) (values : List (List ℕ × Value)) → All P values → P (name, v) → All P (with_value name v values)
all_with_value P name v [] all now = All-cons P (name, v) [] now (All-nil P)
all_with_value P name v (e ∷ values) all now = by (slice_cmp nat_cmp name e.0) refl (all_with_value P name v values (All-tail P e values all) now)
  where
    by : (o : Ordering) → slice_cmp nat_cmp name e.0 ≡ o → All P (with_value name v values) →
        All P (match_ordering o ((name, v) ∷ e ∷ values) ((e.0, v) ∷ values) (e ∷ with_value name v values))
    by Less is rest = All-cons P (name, v) (e ∷ values) now all
    by Equal is rest = All-cons P (e.0, v) values (subst (λ n. P (n, v)) (exact_bytes name e.0 is) now) (All-tail P e values all)
    by Greater is rest = All-cons P e (with_value name v values) (All-head P e values all) rest

pub all_without : {X : Type 0} (P : List ℕ × X → Type 0) (test : List ℕ → Bool) (values : List (List ℕ × X)) → All P values → All P (remove_entry test values)
all_without P test [] all = all
all_without P test (e ∷ values) all = by (test e.0) (all_without P test values (All-tail P e values all))
  where
    by : (t : Bool) → All P (remove_entry test values) → All P (cond t values (e ∷ remove_entry test values))
    by true rest = All-tail P e values all
    by false rest = All-cons P e (remove_entry test values) (All-head P e values all) rest

-- what a test of objects tells
pub is_alive : (past : Past) (h : ℕ) → dead past h ≡ None → (o : Object) × (object_at past.state h ≡ Some o)
is_alive past h none = by (object_at past.state h) refl
  where
    by : (x : Option Object) → object_at past.state h ≡ x → (o : Object) × (object_at past.state h ≡ Some o)
    by (Some o) is = (o, is)
    by None is =
        let asked : is_none (object_at past.state h) ≡ false = does_not_apply (is_none (object_at past.state h)) (BadHandle h) none in
        let test : true ≡ false = sym (ap is_none is) ∙ asked in absurd cc

pub has_that_type : (past : Past) (h : ℕ) (t : DataType) → has_type past h t ≡ true → IsSomeAnd (object_at past.state h) (λ o. type_of_kind o.kind ≡ t)
has_that_type past h t has = by (object_at past.state h) has
  where
    by : (x : Option Object) → option_map_or (λ o. is_same_type (type_of_kind o.kind) t) x false ≡ true → IsSomeAnd x (λ o. type_of_kind o.kind ≡ t)
    by None is = absurd cc
    by (Some o) is = same_type (type_of_kind o.kind) t is

pub not_wrong : (past : Past) (h : ℕ) (t : DataType) → wrong_kind past h t ≡ None → has_type past h t ≡ true
not_wrong past h t none = not-false (has_type past h t) (does_not_apply (not (has_type past h t)) (WrongKind h) none)

-- a set that had its way
record SetFacts (past : Past) (h : ℕ) (name : List ℕ) (v : Value) : Type 0 where
  there : option_and_then (dead past) (object_of_value v) ≡ None
  right : wrong_value past v ≡ None
  typed : (not (is_well_typed v) || option_map_or (λ row. not (permits past row v)) (row_at past h name) false) ≡ false
  known : (is_none (row_at past h name) && is_some (object_of_value v)) ≡ false

set_facts : (past : Past) (h : ℕ) (name : List ℕ) (v : Value) → refusal past (SetParameter h name v) ≡ None → SetFacts past h name v
unfolding refusal refusals_of
set_facts past h name v none =
    let facts : AllNone (refusals_of_set past h name v) = all_none (refusals_of_set past h name v) none in
    record {
      there = facts.1.0;
      right = facts.1.1.1.1.0;
      typed = does_not_apply (not (is_well_typed v) || option_map_or (λ row. not (permits past row v)) (row_at past h name) false) BadType facts.1.1.1.1.1.0;
      known = does_not_apply (is_none (row_at past h name) && is_some (object_of_value v)) UnknownObjectParameter facts.1.1.1.1.1.1.0;
    }

permits_elements : (past : Past) (k : ℕ) (elem : DataType) (p : Object) → has_elements past (Some k) (Some elem) ≡ true → object_at past.state k ≡ Some p → IsSound past.state p → p.kind ≡ Array elem
permits_elements past k elem p has found sound =
    by p.array refl (sym (ap (λ x. option_map_or (λ o. option_map_or (λ a. is_same_type a.block.elem elem) o.array false) x false) found) ∙ has) sound.array
  where
    by : (x : Option ArrayState) → p.array ≡ x → option_map_or (λ a. is_same_type a.block.elem elem) p.array false ≡ true → ArrayFits past.state p.kind p.array → p.kind ≡ Array elem
    by None is has fits = let none : false ≡ true = sym (ap (λ x. option_map_or (λ a. is_same_type a.block.elem elem) x false) is) ∙ has in absurd cc
    by (Some a) is has fits =
        let now : ArrayFits past.state p.kind (Some a) = subst (ArrayFits past.state p.kind) is fits in
        let same : is_same_type a.block.elem elem ≡ true = sym (ap (λ x. option_map_or (λ a. is_same_type a.block.elem elem) x false) is) ∙ has in
        now.0 ∙ ap Array (same_type a.block.elem elem same)

takes_value : (past : Past) (row : Row) (t : DataType) (k : ℕ) (p : Object) → permits past row (value.Object t k) ≡ true → object_at past.state k ≡ Some p → type_of_kind p.kind ≡ t →
    IsSound past.state p → Takes row p.kind
takes_value past row t k p permitted found kind_type sound =
    (kind_type ∙ same_type t row.ty both.0, by row.elem refl)
  where
    both : (is_same_type t row.ty ≡ true) × (has_elements past (Some k) row.elem ≡ true)
    both = and_parts (is_same_type t row.ty) (has_elements past (Some k) row.elem) permitted

    by : (x : Option DataType) → row.elem ≡ x → MatchOption row.elem (Unit {0}) (λ elem. p.kind ≡ Array elem)
    by None is = subst (λ x. MatchOption x (Unit {0}) (λ elem. p.kind ≡ Array elem)) (sym is) tt
    by (Some elem) is =
        subst (λ x. MatchOption x (Unit {0}) (λ elem. p.kind ≡ Array elem)) (sym is)
        (permits_elements past k elem p (ap (has_elements past (Some k)) (sym is) ∙ both.1) found sound)

typed_by_row : (past : Past) (kind : Kind) (name : List ℕ) (v : Value) (x : Option Row) → row_of kind name ≡ x → option_map_or (λ row. not (permits past row v)) x false ≡ false →
    MatchOption (row_of kind name) (Unit {0}) (λ row. type_of v ≡ row.ty)
typed_by_row past kind name v None is allowed = subst (λ x. MatchOption x (Unit {0}) (λ row. type_of v ≡ row.ty)) (sym is) tt
typed_by_row past kind name v (Some row) is allowed =
    subst (λ x. MatchOption x (Unit {0}) (λ row. type_of v ≡ row.ty)) (sym is)
    (same_type (type_of v) row.ty (and_parts (is_same_type (type_of v) row.ty) (has_elements past (object_of_value v) row.elem) (not-false (permits past row v) allowed)).0)

named_by_row : (past : Past) (kind : Kind) (name : List ℕ) (t : DataType) (k : ℕ) (x : Option Row) → AllSound past.state → row_of kind name ≡ x →
    dead past k ≡ None → has_type past k t ≡ true → option_map_or (λ row. not (permits past row (value.Object t k))) x false ≡ false → (is_none x && true) ≡ false → NamesFitting past.state kind name k
named_by_row past kind name t k None all is there has allowed known = absurd cc
named_by_row past kind name t k (Some row) all is there has allowed known =
    subst (λ y. IsSomeAnd y (λ o. IsSomeAnd (row_of kind name) (λ row. Takes row o.kind))) (sym one.1)
    (subst (λ x. IsSomeAnd x (λ row. Takes row one.0.kind)) (sym is)
    (takes_value past row t k one.0 (not-false (permits past row (value.Object t k)) allowed) one.1 kind_type (sound_at past.state k one.0 all one.1)))
  where
    one : (o : Object) × (object_at past.state k ≡ Some o)
    one = is_alive past k there

    kind_type : type_of_kind one.0.kind ≡ t
    kind_type = subst (λ x. IsSomeAnd x (λ o. type_of_kind o.kind ≡ t)) one.1 (has_that_type past k t has)

row_here : (past : Past) (h : ℕ) (name : List ℕ) (o : Object) → object_at past.state h ≡ Some o → row_at past h name ≡ row_of o.kind name
row_here past h name o found = ap (option_and_then (λ o. row_of o.kind name)) found

right_object : (past : Past) (t : DataType) (k : ℕ) → is_object_type t ≡ true → wrong_value past (value.Object t k) ≡ None → has_type past k t ≡ true
right_object past t k is none = not_wrong past k t (sym (ap (λ b. cond b (wrong_kind past k t) None) is) ∙ none)

named_value : (past : Past) (h : ℕ) (name : List ℕ) (v : Value) (o : Object) → SetFacts past h name v → AllSound past.state → object_at past.state h ≡ Some o →
    MatchOption (object_in v) (Unit {0}) (NamesFitting past.state o.kind name)
named_value past h name (value.Object t zero) o facts all found = tt
named_value past h name (value.Object t (suc k)) o facts all found =
    named_by_row past o.kind name t (suc k) (row_of o.kind name) all refl facts.there
    (right_object past t (suc k) (not-false (is_object_type t) parts.0) facts.right)
    (sym (ap (λ x. option_map_or (λ row. not (permits past row (value.Object t (suc k)))) x false) (row_here past h name o found)) ∙ parts.1)
    (sym (ap (λ x. is_none x && true) (row_here past h name o found)) ∙ facts.known)
  where
    parts : (not (is_object_type t) ≡ false) × (option_map_or (λ row. not (permits past row (value.Object t (suc k)))) (row_at past h name) false ≡ false)
    parts = or_parts (not (is_object_type t)) (option_map_or (λ row. not (permits past row (value.Object t (suc k)))) (row_at past h name) false) facts.typed
named_value past h name (value.Int32 z) o facts all found = tt
named_value past h name _ o facts all found = tt

pub set_fits : (past : Past) (h : ℕ) (name : List ℕ) (v : Value) (o : Object) → refusal past (SetParameter h name v) ≡ None → AllSound past.state → object_at past.state h ≡ Some o →
    Fits past.state o.kind name v
set_fits past h name v o none all found = record {
  typed = typed_by_row past o.kind name v (row_of o.kind name) refl
      (sym (ap (λ x. option_map_or (λ row. not (permits past row v)) x false) (row_here past h name o found))
      ∙ (or_parts (not (is_well_typed v)) (option_map_or (λ row. not (permits past row v)) (row_at past h name) false) (set_facts past h name v none).typed).1);
  named = named_value past h name v o (set_facts past h name v none) all found;
}

-- a loan for a parameter that was granted
pub loan_fits : (past : Past) (h : ℕ) (name : List ℕ) (elem : DataType) (count number : ℕ) (o : Object) → refusal past (MapParameterArray h name elem count) ≡ None → object_at past.state h ≡ Some o →
    LoanFits o.kind (record { number = number; name = name; elem = elem; count = count })
unfolding refusal refusals_of
loan_fits past h name elem count number o none found =
    let facts : AllNone (refusals_of_map_parameter past h name elem count) = all_none (refusals_of_map_parameter past h name elem count) none in
    let parts : (not (is_element_type elem) ≡ false) × (option_map_or (λ row. not (takes_arrays_of elem row)) (row_at past h name) false ≡ false) =
    or_parts (not (is_element_type elem)) (option_map_or (λ row. not (takes_arrays_of elem row)) (row_at past h name) false) (does_not_apply (not (is_element_type elem) || option_map_or (λ row. not (takes_arrays_of elem row)) (row_at past h name) false) BadType facts.1.1.0) in (
      not-false (is_element_type elem) parts.0,
      by (row_of o.kind name)
          (sym (ap (λ x. option_map_or (λ row. not (takes_arrays_of elem row)) x false) (row_here past h name o found)) ∙ parts.1)
          (sym (ap is_none (row_here past h name o found)) ∙ does_not_apply (is_none (row_at past h name)) UnknownObjectParameter facts.1.1.1.0),
    )
  where
    says : (row : Row) (x : Option DataType) → row.elem ≡ x → option_map_or (is_same_type elem) row.elem false ≡ true → row.elem ≡ Some elem
    says row None is same = let none : false ≡ true = sym (ap (λ x. option_map_or (is_same_type elem) x false) is) ∙ same in absurd cc
    says row (Some e) is same = is ∙ ap Some (sym (same_type elem e (sym (ap (λ x. option_map_or (is_same_type elem) x false) is) ∙ same)))

    by : (x : Option Row) → option_map_or (λ row. not (takes_arrays_of elem row)) x false ≡ false → is_none x ≡ false → IsSomeAnd x (λ row. (row.ty ≡ ty.Array1D) × (row.elem ≡ Some elem))
    by None allowed known = absurd cc
    by (Some row) allowed known =
        let both : (is_same_type row.ty ty.Array1D ≡ true) × (option_map_or (is_same_type elem) row.elem false ≡ true) =
        and_parts (is_same_type row.ty ty.Array1D) (option_map_or (is_same_type elem) row.elem false) (not-false (takes_arrays_of elem row) allowed) in
        (same_type row.ty ty.Array1D both.0, says row row.elem refl both.1)

-- zeros name nothing
zero_at : (bytes : List ℕ) (i : ℕ) → All (λ b. b ≡ 0) bytes → slice_index bytes i ≡ 0
zero_at [] i all = refl
zero_at (b ∷ bytes) zero all = All-head (λ (b : ℕ). b ≡ 0) b bytes all
zero_at (b ∷ bytes) (suc i) all = zero_at bytes i (All-tail (λ (b : ℕ). b ≡ 0) b bytes all)

number_of_zeros : (bytes : List ℕ) → All (λ b. b ≡ 0) bytes → from_le_bytes w64 bytes ≡ 0
number_of_zeros bytes all = ap (λ (at : ℕ → ℕ). sum_through (λ i. byte_worth i (at i)) 7) (λ j i. zero_at bytes i all j)

zero_is_none : (t : DataType) (bytes : List ℕ) → from_le_bytes w64 bytes ≡ 0 → object_in (value_of t bytes) ≡ None
zero_is_none ty.Int32 bytes is = refl
zero_is_none ty.Uint32 bytes is = refl
zero_is_none ty.Uint32Vec2 bytes is = refl
zero_is_none ty.Uint32Vec3 bytes is = refl
zero_is_none ty.Uint64 bytes is = refl
zero_is_none ty.Scalar bytes is = refl
zero_is_none ty.ScalarVec2 bytes is = refl
zero_is_none ty.ScalarVec3 bytes is = refl
zero_is_none ty.ScalarMat34 bytes is = refl
zero_is_none ty.ScalarBox3 bytes is = refl
zero_is_none ty.Ufixed8Vec4 bytes is = refl
zero_is_none ty.Str bytes is = refl
zero_is_none ty.TypeName bytes is = refl
zero_is_none t bytes is = ap (λ n. object_in (value.Object t n)) is

pub zeros_name_nothing : (elem : DataType) (count stride n : ℕ) → objects_in (record { elem = elem; count = count; stride = stride; bytes = zeros n }) ≡ []
zeros_name_nothing elem count stride n = none (range_with_len 0 count)
  where
    each : (i : ℕ) → object_in (element_of elem stride (zeros n) i) ≡ None
    each i = zero_is_none elem (part_of elem stride (zeros n) i)
        (number_of_zeros (part_of elem stride (zeros n) i)
        (All-take (λ (b : ℕ). b ≡ 0) (byte_size elem) (drop (i * stride) (zeros n)) (All-drop (λ (b : ℕ). b ≡ 0) (i * stride) (zeros n) (All-replicate (λ (b : ℕ). b ≡ 0) n 0 refl))))

    none : (is : List ℕ) → filter_map {Y = ℕ × ℕ} (λ i. option_map (λ h. (i, h)) (object_in (element_of elem stride (zeros n) i))) is ≡ []
    none [] = refl
    none (i ∷ is) = rw (each i) (none is)
