-- The state after an entry of a legal history is sound where the one before it was.
use Rattle.std.proofs.Common.{ℕ, ◌+◌, ◌*◌, ◌==◌, ◌≡◌, ◌<◌, ◌∙◌, ◌⊎◌, inl, inr, Bool, true, false, not, List, [], ◌∷◌, All, Option, Some, None, map, refl, sym, ap, subst, length, arith}
use Rattle.std.specs.Prelude.{cond, ◌||◌, ◌&&◌}
use Rattle.std.specs.List.{find, list_all, list_any}
use Rattle.std.specs.Option.{IsSomeAnd, option_and_then, option_map, option_map_or, option_or}
use Rattle.std.specs.Str.{bytes_eq}
use Rattle.std.proofs.lemmas.Bool.{and_parts, eqb-true, not-false, or_cases}
use Rattle.std.proofs.lemmas.List.Elements.{All-nil, All-cons, All-filter, All-head, All-push, All-tail}
use Rattle.std.proofs.lemmas.Slice.Eq.{bytes_eq-Decides}
use Rattle.dev_types.specs.Blocks.{needed_length}
use Rattle.dev_types.specs.DataTypes.{byte_size, is_element_type}
use Rattle.dev_types.specs.declared.data_types.DataType.{DataType}
use Rattle.dev_types.specs.declared.handles.Origin.{Origin}
use Rattle.dev_types.specs.declared.handles.Origin.TheVariants.{Captured, Shared, Managed}
use Rattle.dev_types.specs.declared.refusals.Refused.{Refused}
use Rattle.dev_types.specs.declared.refusals.Refused.TheVariants.{BadShape, BadType, NotMapped}
use Rattle.dev_types.specs.declared.values.Value.{Value}
use Rattle.kind_tables.specs.Kinds.{kind_of, type_of_kind}
use Rattle.kind_tables.specs.SceneObjects.{Block, objects_in}
use Rattle.kind_tables.specs.WalkRefusals.{first_answer}
use Rattle.kind_tables.specs.declared.kinds.Kind.{Kind}
use Rattle.kind_tables.specs.declared.kinds.Kind.TheVariants.{Array}
use Rattle.seq_model.proofs.Granted.{AllNone, all_none, does_not_apply, first_is_none, out_is_numbered}
use Rattle.seq_model.proofs.Keys.{RisesWithin}
use Rattle.seq_model.proofs.SoundSteps.{has_that_type, not_wrong, zeros_name_nothing}
use Rattle.seq_model.proofs.Tables.{is_array, made_is_no_array}
use Rattle.seq_model.specs.Legal.{are_elements_sound, content_of_array, is_content_sound}
use Rattle.seq_model.specs.Refusals.{bad_elements, first_of, given_handles, has_type, is_array_loan_out, is_bad_shape, is_parameter_out, refusal, refusals_of, wrong_kind}
use Rattle.seq_model.specs.Soundness.{AllFit, ArrayFits, ElementsFit, Fits, IsSound, LoanFits}
use Rattle.seq_model.specs.State.{ArrayState, Object, ParameterLoan, State, content_of_loan, object_at, parameter_loan, with_bytes}
use Rattle.seq_model.specs.Steps.{Past, change_array, commit, end_parameter_loan, first_bytes, fresh, fresh_array, holding, lend_parameter, lent, set_staged}
use Rattle.seq_model.specs.declared.calls.Call.TheVariants.{NewArray, UnmapArray}

-- what a test of all items tells of each
each_passes : {X : Type 0} (p : X → Bool) (Q : X → Type 0) → ((x : X) → p x ≡ true → Q x) → (xs : List X) → list_all p xs ≡ true → All Q xs
each_passes p Q tells [] all = All-nil Q
each_passes p Q tells (x ∷ xs) all =
    let both : (p x ≡ true) × (list_all p xs ≡ true) = and_parts (p x) (list_all p xs) all in
    All-cons Q x xs (tells x both.0) (each_passes p Q tells xs both.1)

sound_elements : (past : Past) (b : Block) → are_elements_sound past b ≡ true → ElementsFit past.state b
sound_elements past b all =
    each_passes (λ (named : ℕ × ℕ). has_type past named.1 b.elem) (λ (named : ℕ × ℕ). IsSomeAnd (object_at past.state named.1) (λ o. type_of_kind o.kind ≡ b.elem))
    (λ named has. has_that_type past named.1 b.elem has) (objects_in b) all

-- a new array
asked_elements : (past : Past) (elem : DataType) (named : List (ℕ × ℕ)) → first_answer (λ h. wrong_kind past h elem) (map (λ (n : ℕ × ℕ). n.1) named) ≡ None →
    All (λ n. IsSomeAnd (object_at past.state n.1) (λ o. type_of_kind o.kind ≡ elem)) named
asked_elements past elem [] none = All-nil (λ (n : ℕ × ℕ). IsSomeAnd (object_at past.state n.1) (λ o. type_of_kind o.kind ≡ elem))
asked_elements past elem (n ∷ named) none =
    All-cons (λ (n : ℕ × ℕ). IsSomeAnd (object_at past.state n.1) (λ o. type_of_kind o.kind ≡ elem)) n named
    (has_that_type past n.1 elem (not_wrong past n.1 elem first.0)) (asked_elements past elem named first.1)
  where
    parts : (x y : Option Refused) → option_or x y ≡ None → (x ≡ None) × (y ≡ None)
    parts None y is = (refl, is)
    parts (Some x) y is = absurd cc

    first : (wrong_kind past n.1 elem ≡ None) × (first_answer (λ h. wrong_kind past h elem) (map (λ (n : ℕ × ℕ). n.1) named) ≡ None)
    first = parts (wrong_kind past n.1 elem) (first_answer (λ h. wrong_kind past h elem) (map (λ (n : ℕ × ℕ). n.1) named)) none

array_facts : (past : Past) (elem : DataType) (count stride : ℕ) (origin : Origin) (bytes : List ℕ) → refusal past (NewArray elem count stride origin bytes) ≡ None →
    (is_element_type elem ≡ true) × ElementsFit past.state (record { elem = elem; count = count; stride = stride; bytes = bytes })
unfolding refusal refusals_of
array_facts past elem count stride origin bytes none = by (is_element_type elem) refl (is_bad_shape elem count stride origin bytes) none
  where
    by : (may : Bool) → is_element_type elem ≡ may → (bad : Bool) →
        first_of (cond (not may) (Some BadType ∷ []) (cond bad (Some BadShape ∷ []) (bad_elements past elem (given_handles elem count stride bytes)))) ≡ None →
        (is_element_type elem ≡ true) × ElementsFit past.state (record { elem = elem; count = count; stride = stride; bytes = bytes })
    by false is bad none = absurd cc
    by true is true none = absurd cc
    by true is false none =
        let facts : AllNone (bad_elements past elem (given_handles elem count stride bytes)) = all_none (bad_elements past elem (given_handles elem count stride bytes)) none in
        (is, asked_elements past elem (objects_in (record { elem = elem; count = count; stride = stride; bytes = bytes })) facts.1.1.0)

pub new_array_sound : (past : Past) (elem : DataType) (count stride : ℕ) (origin : Origin) (bytes : List ℕ) → refusal past (NewArray elem count stride origin bytes) ≡ None →
    IsSound past.state (fresh_array elem count stride origin bytes)
new_array_sound past elem count stride origin bytes none = record {
  staged = All-nil (λ (entry : List ℕ × Value). Fits past.state (Array elem) entry.0 entry.1);
  committed = All-nil (λ (entry : List ℕ × Value). Fits past.state (Array elem) entry.0 entry.1);
  loans = All-nil (LoanFits (Array elem));
  array = (refl, facts.0, by origin);
}
  where
    facts : (is_element_type elem ≡ true) × ElementsFit past.state (record { elem = elem; count = count; stride = stride; bytes = bytes })
    facts = array_facts past elem count stride origin bytes none

    by : (origin : Origin) → ElementsFit past.state (record { elem = elem; count = count; stride = stride; bytes = first_bytes origin (needed_length elem stride count) bytes })
    by (Captured user) = facts.1
    by (Shared user) = facts.1
    by Managed =
        subst (All (λ (named : ℕ × ℕ). IsSomeAnd (object_at past.state named.1) (λ o. type_of_kind o.kind ≡ elem))) (sym (zeros_name_nothing elem count stride (needed_length elem stride count)))
        (All-nil (λ (named : ℕ × ℕ). IsSomeAnd (object_at past.state named.1) (λ o. type_of_kind o.kind ≡ elem)))

pub new_object_sound : (s : State) (t : DataType) (subtype : List ℕ) (kind : Kind) → kind_of t subtype ≡ Some kind → IsSound s (fresh kind None)
new_object_sound s t subtype kind found = record {
  staged = All-nil (λ (entry : List ℕ × Value). Fits s kind entry.0 entry.1);
  committed = All-nil (λ (entry : List ℕ × Value). Fits s kind entry.0 entry.1);
  loans = All-nil (LoanFits kind);
  array = λ elem is. (let wrong : true ≡ false = sym (ap is_array is) ∙ made_is_no_array t subtype kind found in cc);
}

-- what a change of the staged map leaves sound
pub restaged : (s : State) (o : Object) (f : List (List ℕ × Value) → List (List ℕ × Value)) → AllFit s o.kind (f o.staged) → IsSound s o → IsSound s (set_staged f o)
restaged s o f fit sound = record { staged = fit; committed = sound.committed; loans = sound.loans; array = sound.array }

pub committed_sound : (s : State) (o : Object) → IsSound s o → IsSound s (commit o)
committed_sound s o sound = record { staged = sound.staged; committed = sound.staged; loans = sound.loans; array = sound.array }

pub same_values : (s : State) (o p : Object) → p.kind ≡ o.kind → p.staged ≡ o.staged → p.committed ≡ o.committed → p.parameter_loans ≡ o.parameter_loans → p.array ≡ o.array → IsSound s o → IsSound s p
same_values s o p kind staged committed loans array sound = record {
  staged = subst (λ k. AllFit s k p.staged) (sym kind) (subst (AllFit s o.kind) (sym staged) sound.staged);
  committed = subst (λ k. AllFit s k p.committed) (sym kind) (subst (AllFit s o.kind) (sym committed) sound.committed);
  loans = subst (λ k. All (LoanFits k) p.parameter_loans) (sym kind) (subst (All (LoanFits o.kind)) (sym loans) sound.loans);
  array = subst (λ k. ArrayFits s k p.array) (sym kind) (subst (ArrayFits s o.kind) (sym array) sound.array);
}

pub with_loan_sound : (s : State) (o : Object) (loan : ParameterLoan) → LoanFits o.kind loan → IsSound s o → IsSound s (lend_parameter loan o)
with_loan_sound s o loan fits sound =
    record { staged = sound.staged; committed = sound.committed; loans = All-push (LoanFits o.kind) o.parameter_loans loan sound.loans fits; array = sound.array }

pub without_loan_sound : (s : State) (o : Object) (number : ℕ) → IsSound s o → IsSound s (end_parameter_loan number o)
without_loan_sound s o number sound =
    record { staged = sound.staged; committed = sound.committed; loans = All-filter (λ loan. not (loan.number == number)) (LoanFits o.kind) o.parameter_loans sound.loans; array = sound.array }

-- an array that is lent, and one that comes back
pub lent_sound : (s : State) (o : Object) (place : ℕ) → IsSound s o → IsSound s (change_array (lent place) o)
lent_sound s o place sound = record { staged = sound.staged; committed = sound.committed; loans = sound.loans; array = by o.array sound.array }
  where
    by : (x : Option ArrayState) → ArrayFits s o.kind x → ArrayFits s o.kind (option_map (lent place) x)
    by None fits = fits
    by (Some a) fits = fits

out_is_there : (past : Past) (h number : ℕ) (bytes : List ℕ) → refusal past (UnmapArray h number bytes) ≡ None → is_array_loan_out past.state h number (length bytes) ≡ true
unfolding refusal refusals_of
out_is_there past h number bytes none =
    not-false (is_array_loan_out past.state h number (length bytes)) (does_not_apply (not (is_array_loan_out past.state h number (length bytes))) NotMapped (first_is_none _ [] none).0)

pub content_is_sound : (x : Bool) (content : Option Block) (past : Past) (b : Block) → x ≡ true → (not x || option_map_or (are_elements_sound past) content true) ≡ true → content ≡ Some b → are_elements_sound past b ≡ true
content_is_sound true content past b out sound is = sym (ap (λ c. option_map_or (are_elements_sound past) c true) is) ∙ sound
content_is_sound false content past b out sound is = absurd cc

pub returned_sound : (past : Past) (h number : ℕ) (bytes : List ℕ) (o : Object) → refusal past (UnmapArray h number bytes) ≡ None → is_content_sound past (UnmapArray h number bytes) ≡ true →
    object_at past.state h ≡ Some o → IsSound past.state o → IsSound past.state (change_array (holding bytes) o)
returned_sound past h number bytes o none content found sound =
    record { staged = sound.staged; committed = sound.committed; loans = sound.loans; array = by o.array refl sound.array }
  where
    by : (x : Option ArrayState) → o.array ≡ x → ArrayFits past.state o.kind x → ArrayFits past.state o.kind (option_map (holding bytes) x)
    by None is fits = fits
    by (Some a) is fits =
        let here : content_of_array past h bytes ≡ Some (with_bytes bytes a.block) =
        ap (λ x. option_map (λ a. with_bytes bytes a.block) (option_and_then (λ o. o.array) x)) found ∙ ap (option_map (λ a. with_bytes bytes a.block)) is in (
          fits.0,
          fits.1,
          sound_elements past (with_bytes bytes a.block)
              (content_is_sound (is_array_loan_out past.state h number (length bytes)) (content_of_array past h bytes) past (with_bytes bytes a.block) (out_is_there past h number bytes none) content here),
        )

-- the loan of a parameter array that comes back: numbers tell loans apart
later_numbers : (low high number : ℕ) (loans : List ParameterLoan) (name : List ℕ) (len : ℕ) → RisesWithin low high (map (λ (l : ParameterLoan). l.number) loans) → number < low →
    list_any (is_parameter_out name number len) loans ≡ true → ⊥
later_numbers low high number [] name len rising less out = absurd cc
later_numbers low high number (l ∷ loans) name len rising less out =
    by (or_cases (is_parameter_out name number len l) (list_any (is_parameter_out name number len) loans) out)
    (λ later. later_numbers (l.number + 1) high number loans name len rising.1 (omega (arith, less, rising.0)) later)
  where
    by : (is_parameter_out name number len l ≡ true) ⊎ (list_any (is_parameter_out name number len) loans ≡ true) → (list_any (is_parameter_out name number len) loans ≡ true → ⊥) → ⊥
    by (inl now) rest = let same : l.number ≡ number = eqb-true l.number number (out_is_numbered name number len l now) in omega (arith, same, less, rising.0)
    by (inr later) rest = rest later

out_is_named : (name : List ℕ) (number len : ℕ) (loan : ParameterLoan) → is_parameter_out name number len loan ≡ true → loan.name ≡ name
out_is_named name number len loan is =
    (bytes_eq-Decides loan.name name).0
    (and_parts (loan.number == number) (bytes_eq loan.name name) (and_parts ((loan.number == number) && bytes_eq loan.name name) (loan.count * byte_size loan.elem == len) is).0).1

pub named_loan : (low high number len : ℕ) (name : List ℕ) (loans : List ParameterLoan) → RisesWithin low high (map (λ (l : ParameterLoan). l.number) loans) →
    list_any (is_parameter_out name number len) loans ≡ true → (loan : ParameterLoan) × (parameter_loan number loans ≡ Some loan) × (loan.name ≡ name)
named_loan low high number len name [] rising out = absurd cc
named_loan low high number len name (l ∷ loans) rising out =
    by (l.number == number) refl (or_cases (is_parameter_out name number len l) (list_any (is_parameter_out name number len) loans) out)
    (λ later. named_loan (l.number + 1) high number len name loans rising.1 later)
  where
    by : (t : Bool) → (l.number == number) ≡ t → (is_parameter_out name number len l ≡ true) ⊎ (list_any (is_parameter_out name number len) loans ≡ true) →
        (list_any (is_parameter_out name number len) loans ≡ true → (loan : ParameterLoan) × (parameter_loan number loans ≡ Some loan) × (loan.name ≡ name)) →
        (loan : ParameterLoan) × (parameter_loan number (l ∷ loans) ≡ Some loan) × (loan.name ≡ name)
    by true is (inl now) rest = (l, ap (λ t. cond t (Some l) (parameter_loan number loans)) is, out_is_named name number len l now)
    by true is (inr later) rest =
        let same : l.number ≡ number = eqb-true l.number number is in
        absurd (later_numbers (l.number + 1) high number loans name len rising.1 (omega (arith, same)) later)
    by false is (inl now) rest = let numbered : (l.number == number) ≡ true = out_is_numbered name number len l now in absurd cc
    by false is (inr later) rest =
        let one : (loan : ParameterLoan) × (parameter_loan number loans ≡ Some loan) × (loan.name ≡ name) = rest later in
        (one.0, ap (λ t. cond t (Some l) (parameter_loan number loans)) is ∙ one.1, one.2)

pub found_fits : (P : ParameterLoan → Type 0) (q : ParameterLoan → Bool) (loans : List ParameterLoan) (loan : ParameterLoan) → All P loans → find q loans ≡ Some loan → P loan
found_fits P q [] loan all found = absurd cc
found_fits P q (l ∷ loans) loan all found = by (q l) refl (λ later. found_fits P q loans loan (All-tail P l loans all) later)
  where
    by : (t : Bool) → q l ≡ t → (find q loans ≡ Some loan → P loan) → P loan
    by true is rest = let value : Some l ≡ Some loan = rw is at found in let same : l ≡ loan = cc in subst P same (All-head P l loans all)
    by false is rest = rest (rw is at found)

-- the array that a parameter array becomes
unfoldable pub taken_array : ParameterLoan → List ℕ → Object
taken_array loan bytes = fresh (Array loan.elem) (Some (record { block = content_of_loan loan bytes; origin = Managed; loan = None }))

pub taken_array_sound : (past : Past) (loan : ParameterLoan) (bytes : List ℕ) → is_element_type loan.elem ≡ true → are_elements_sound past (content_of_loan loan bytes) ≡ true → IsSound past.state (taken_array loan bytes)
unfolding taken_array
taken_array_sound past loan bytes may content = record {
  staged = All-nil (λ (entry : List ℕ × Value). Fits past.state (Array loan.elem) entry.0 entry.1);
  committed = All-nil (λ (entry : List ℕ × Value). Fits past.state (Array loan.elem) entry.0 entry.1);
  loans = All-nil (LoanFits (Array loan.elem));
  array = (refl, may, sound_elements past (content_of_loan loan bytes) content);
}
