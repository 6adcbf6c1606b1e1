-- What a call and the reply that it has make of each other.
use Rattle.std.proofs.Common.{ℕ, ◌+◌, ◌*◌, ◌==◌, ◌≡◌, ◌≤◌, ◌∙◌, ◌⊎◌, inl, inr, Bool, true, false, not, nat_lt, List, [], ◌∷◌, Option, Some, None, map, length, refl, sym, ap, arith}
use Rattle.std.specs.Prelude.{◌||◌, IsTrue, cond}
use Rattle.std.specs.Bool.{then_some}
use Rattle.std.specs.List.{list_any}
use Rattle.std.specs.Option.{option_and_then, option_map, option_map_or, option_or}
use Rattle.std.proofs.lemmas.Bool.{eqb-true, not-false, or_cases}
use Rattle.std.proofs.lemmas.Bool.Decides.{nat_tests}
use Rattle.dev_types.specs.DataTypes.{byte_size, is_element_type}
use Rattle.dev_types.specs.declared.data_types.DataType.{DataType}
use Rattle.dev_types.specs.declared.handles.Origin.{Origin}
use Rattle.dev_types.specs.declared.refusals.Refused.{Refused}
use Rattle.dev_types.specs.declared.refusals.Refused.TheVariants.{BadShape, BadType, NotMapped}
use Rattle.seq_model.proofs.Granted.{AllNone, all_none, does_not_apply, out_is_numbered}
use Rattle.seq_model.proofs.Keys.{RisesWithin}
use Rattle.seq_model.proofs.Loans.{loans_are_earlier}
use Rattle.seq_model.specs.Answers.{answer, granted}
use Rattle.seq_model.specs.Refusals.{bad_elements, given_handles, is_array_loan_out, is_bad_shape, is_parameter_loan_out, is_parameter_out, most_bytes, refusal, refusals_of, row_at, takes_arrays_of}
use Rattle.seq_model.specs.State.{Object, ParameterLoan, object_at, parameter_loan}
use Rattle.seq_model.specs.Steps.{Past, after}
use Rattle.seq_model.specs.declared.calls.Call.{Call}
use Rattle.seq_model.specs.declared.calls.Call.TheVariants.{NewArray, UnmapArray, MapParameterArray, UnmapParameterArray}
use Rattle.seq_model.specs.declared.calls.Reply.{Reply}
use Rattle.seq_model.specs.declared.calls.Reply.TheVariants as reply
use Rattle.past_laws.specs.Suits.{IsLoanOf, Suits}

-- a reply that denies nothing
abbrev pub IsGranted : Reply → Type 0
IsGranted r = (refused : Refused) → reply.Denied refused ≡ r → ⊥

-- no refusal applies to a call that has such a reply
not_refused : (past : Past) (call : Call) (r : Reply) → IsGranted r → answer past call ≡ Some r → AllNone (refusals_of past call)
unfolding answer refusal
not_refused past call r grants is = by (refusal past call) refl is
  where
    by : (x : Option Refused) → refusal past call ≡ x → option_or (option_map reply.Denied x) (granted past call) ≡ Some r → AllNone (refusals_of past call)
    by None none is = all_none (refusals_of past call) none
    by (Some refused) some is = let same : reply.Denied refused ≡ r = cc in absurd (grants refused same)

-- a new array
suits_array : (past : Past) (elem : DataType) (count stride : ℕ) (origin : Origin) (bytes : List ℕ) → AllNone (refusals_of past (NewArray elem count stride origin bytes)) →
    IsTrue (is_element_type elem) × (is_bad_shape elem count stride origin bytes ≡ false)
unfolding refusals_of
suits_array past elem count stride origin bytes none = by (is_element_type elem) refl (is_bad_shape elem count stride origin bytes) refl none
  where
    by : (may : Bool) → is_element_type elem ≡ may → (bad : Bool) → is_bad_shape elem count stride origin bytes ≡ bad →
        AllNone (cond (not may) (Some BadType ∷ []) (cond bad (Some BadShape ∷ []) (bad_elements past elem (given_handles elem count stride bytes)))) →
        IsTrue (is_element_type elem) × (is_bad_shape elem count stride origin bytes ≡ false)
    by false is bad shape none = absurd (let none : Some BadType ≡ None = none.0 in cc)
    by true is true shape none = absurd (let none : Some BadShape ≡ None = none.0 in cc)
    by true is false shape none = (is, shape)

-- an array that comes back
suits_unmap : (past : Past) (h number : ℕ) (bytes : List ℕ) → AllNone (refusals_of past (UnmapArray h number bytes)) → is_array_loan_out past.state h number (length bytes) ≡ true
unfolding refusals_of
suits_unmap past h number bytes none =
    not-false (is_array_loan_out past.state h number (length bytes)) (does_not_apply (not (is_array_loan_out past.state h number (length bytes))) NotMapped none.0)

-- an array that is lent for a parameter
suits_loan : (past : Past) (h : ℕ) (name : List ℕ) (elem : DataType) (count : ℕ) → AllNone (refusals_of past (MapParameterArray h name elem count)) →
    IsTrue (is_element_type elem) × (count * byte_size elem ≤ most_bytes)
unfolding refusals_of
suits_loan past h name elem count none =
    (by (is_element_type elem) refl (option_map_or (λ row. not (takes_arrays_of elem row)) (row_at past h name) false) none.1.1.0, fits (does_not_apply (nat_lt most_bytes (count * byte_size elem)) BadShape none.1.1.1.1.0))
  where
    by : (may : Bool) → is_element_type elem ≡ may → (bad : Bool) → then_some (not may || bad) BadType ≡ None → is_element_type elem ≡ true
    by true is bad none = is
    by false is bad none = absurd cc

    fits : nat_lt most_bytes (count * byte_size elem) ≡ false → count * byte_size elem ≤ most_bytes
    fits is = grind (arith, nat_tests, is)

-- the numbers of the loans for an object's parameters rise, so the loan with a number is the one that is out
not_below : (low high number len : ℕ) (name : List ℕ) (loans : List ParameterLoan) → RisesWithin low high (map (λ (l : ParameterLoan). l.number) loans) →
    list_any (is_parameter_out name number len) loans ≡ true → low ≤ number
not_below low high number len name [] rising out = absurd cc
not_below low high number len name (l ∷ loans) rising out =
    by (or_cases (is_parameter_out name number len l) (list_any (is_parameter_out name number len) loans) out) (not_below (l.number + 1) high number len name loans rising.1)
  where
    by : (is_parameter_out name number len l ≡ true) ⊎ (list_any (is_parameter_out name number len) loans ≡ true) → (list_any (is_parameter_out name number len) loans ≡ true → l.number + 1 ≤ number) → low ≤ number
    by (inl now) rest = let same : l.number ≡ number = eqb-true l.number number (out_is_numbered name number len l now) in omega (arith, same, rising.0)
    by (inr later) rest = let above : l.number + 1 ≤ number = rest later in omega (arith, above, rising.0)

out_is_that : (low high number len : ℕ) (name : List ℕ) (loans : List ParameterLoan) → RisesWithin low high (map (λ (l : ParameterLoan). l.number) loans) →
    list_any (is_parameter_out name number len) loans ≡ true → option_map_or (is_parameter_out name number len) (parameter_loan number loans) false ≡ true
out_is_that low high number len name [] rising out = absurd cc
out_is_that low high number len name (l ∷ loans) rising out =
    by (l.number == number) refl (or_cases (is_parameter_out name number len l) (list_any (is_parameter_out name number len) loans) out)
    (out_is_that (l.number + 1) high number len name loans rising.1)
  where
    by : (t : Bool) → (l.number == number) ≡ t → (is_parameter_out name number len l ≡ true) ⊎ (list_any (is_parameter_out name number len) loans ≡ true) →
        (list_any (is_parameter_out name number len) loans ≡ true → option_map_or (is_parameter_out name number len) (parameter_loan number loans) false ≡ true) →
        option_map_or (is_parameter_out name number len) (cond t (Some l) (parameter_loan number loans)) false ≡ true
    by true is (inl now) rest = now
    by true is (inr later) rest =
        let same : l.number ≡ number = eqb-true l.number number is in
        let above : l.number + 1 ≤ number = not_below (l.number + 1) high number len name loans rising.1 later in absurd (omega (arith, same, above))
    by false is (inl now) rest = let numbered : (l.number == number) ≡ true = out_is_numbered name number len l now in absurd cc
    by false is (inr later) rest = rest later

-- an array for a parameter that comes back
loan_of : (past : Past) → past ≡ after past.seen → (h number len : ℕ) (name : List ℕ) → is_parameter_loan_out past.state h name number len ≡ true → IsLoanOf past.state h name number len
loan_of past led h number len name out = by (object_at past.state h) refl out
  where
    by : (x : Option Object) → object_at past.state h ≡ x → option_map_or (λ o. list_any (is_parameter_out name number len) o.parameter_loans) x false ≡ true →
        option_map_or (is_parameter_out name number len) (option_and_then (λ o. parameter_loan number o.parameter_loans) x) false ≡ true
    by None is out = absurd cc
    by (Some o) is out =
        out_is_that 1 (length past.seen + 1) number len name o.parameter_loans
        (loans_are_earlier past.seen h o (ap (λ (p : Past). object_at p.state h) (sym led) ∙ is)).parameters out

suits_taken : (past : Past) → past ≡ after past.seen → (h : ℕ) (name : List ℕ) (number : ℕ) (bytes : List ℕ) → AllNone (refusals_of past (UnmapParameterArray h name number bytes)) →
    IsLoanOf past.state h name number (length bytes)
unfolding refusals_of
suits_taken past led h name number bytes none =
    loan_of past led h number (length bytes) name
    (not-false (is_parameter_loan_out past.state h name number (length bytes)) (does_not_apply (not (is_parameter_loan_out past.state h name number (length bytes))) NotMapped none.0))

-- the reply that a call has after a past suits it
pub suits : (past : Past) (call : Call) (r : Reply) → past ≡ after past.seen → answer past call ≡ Some r → Suits past.state call r
suits past (NewArray elem count stride origin bytes) (reply.Made made) led is =
    suits_array past elem count stride origin bytes (not_refused past (NewArray elem count stride origin bytes) (reply.Made made) (λ refused same. cc) is)
suits past (UnmapArray h number bytes) reply.Done led is =
    suits_unmap past h number bytes (not_refused past (UnmapArray h number bytes) reply.Done (λ refused same. cc) is)
suits past (MapParameterArray h name elem count) (reply.Lent number) led is =
    suits_loan past h name elem count (not_refused past (MapParameterArray h name elem count) (reply.Lent number) (λ refused same. cc) is)
suits past (UnmapParameterArray h name number bytes) (reply.Made made) led is =
    suits_taken past led h name number bytes (not_refused past (UnmapParameterArray h name number bytes) (reply.Made made) (λ refused same. cc) is)
suits past _ _ led is = tt
