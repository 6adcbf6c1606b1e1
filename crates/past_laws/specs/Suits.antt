-- What a call and its reply have to be for its change to be made.
use Rattle.std.specs.Prelude.{ℕ, ◌≡◌, ◌*◌, ◌≤◌, IsTrue, List, [], None, Some, false, length, true}
use Rattle.std.specs.Option.{option_and_then, option_map_or}
use Rattle.dev_types.specs.DataTypes.{byte_size, is_element_type}
use Rattle.dev_types.specs.declared.handles.Origin.TheVariants.{Managed}
use Rattle.kind_tables.specs.SceneObjects.{with_value, without_value}
use Rattle.kind_tables.specs.declared.kinds.Kind.TheVariants.{Array}
use Rattle.seq_model.specs.Refusals.{is_array_loan_out, is_bad_shape, is_parameter_out, most_bytes}
use Rattle.seq_model.specs.State.{Object, ParameterLoan, State, changed_at, content_of_loan, object_at, parameter_loan}
use Rattle.seq_model.specs.Steps.{commit, fresh, set_staged}
use Rattle.seq_model.specs.declared.calls.Call.{Call}
use Rattle.seq_model.specs.declared.calls.Call.TheVariants.{Commit, SetParameter, UnsetAll, UnsetParameter, NewArray, UnmapArray, MapParameterArray, UnmapParameterArray}
use Rattle.seq_model.specs.declared.calls.Reply.{Reply}
use Rattle.seq_model.specs.declared.calls.Reply.TheVariants as reply

-- the loan with this number for the parameter has so many bytes
abbrev pub IsLoanOf : State → ℕ → List ℕ → ℕ → ℕ → Type 0
IsLoanOf s h name number len =
    option_map_or (is_parameter_out name number len) (option_and_then (λ o. parameter_loan number o.parameter_loans) (object_at s h)) false ≡ true

-- an array that is made has a shape that arrays may have; what comes back comes from a loan that is out
abbrev pub Suits : State → Call → Reply → Type 0
Suits s (NewArray elem count stride origin bytes) (reply.Made _) =
    IsTrue (is_element_type elem) × (is_bad_shape elem count stride origin bytes ≡ false)
Suits s (UnmapArray h number bytes) reply.Done = is_array_loan_out s h number (length bytes) ≡ true
Suits s (MapParameterArray h name elem count) (reply.Lent _) = IsTrue (is_element_type elem) × (count * byte_size elem ≤ most_bytes)
Suits s (UnmapParameterArray h name number bytes) (reply.Made _) = IsLoanOf s h name number (length bytes)
Suits s call r = Unit {0}

-- the array that a loan for a parameter becomes
abbrev pub taken_array : ParameterLoan → List ℕ → Object
taken_array loan bytes = fresh (Array loan.elem) (Some (record { block = content_of_loan loan bytes; origin = Managed; loan = None }))

-- what calls on parameters that were done do to the objects
abbrev pub parameters_changed : Call → State → State
parameters_changed (SetParameter h name v) s = changed_at h (set_staged (with_value name v)) s
parameters_changed (UnsetParameter h name) s = changed_at h (set_staged (without_value name)) s
parameters_changed (UnsetAll h) s = changed_at h (set_staged (λ _. [])) s
parameters_changed (Commit h) s = changed_at h commit s
parameters_changed call s = s
