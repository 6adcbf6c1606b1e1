-- What comes back by an unmap: an element that names no object which is there with its type, is none.
use Rattle.std.specs.Prelude.{ℕ, List, fold, length, if◌then◌else◌}
use Rattle.std.specs.Option.{option_and_then, option_map_or}
use Rattle.dev_types.specs.Blocks.{with_part}
use Rattle.kind_tables.specs.SceneObjects.{Block, objects_in}
use Rattle.seq_model.specs.Refusals.{has_type, is_array_loan_out, is_parameter_loan_out}
use Rattle.seq_model.specs.State.{content_of_loan, object_at, parameter_loan, with_bytes}
use Rattle.seq_model.specs.Steps.{Past, zeros}
use Rattle.seq_model.specs.declared.calls.Call.{Call}
use Rattle.seq_model.specs.declared.calls.Call.TheVariants.{UnmapArray, UnmapParameterArray}

-- a block with element i none
abbrev pub without_element : Block → ℕ → Block
without_element b i = with_bytes (with_part b.elem b.stride b.bytes i (zeros 8)) b

-- a block in which each element is none that names no object of its type
unfoldable pub cleaned : Past → Block → Block
cleaned past b = fold (λ content named. if has_type past named.1 b.elem then content else without_element content named.0) b (objects_in b)

-- the bytes with which an array, or a loan for a parameter, comes back
abbrev pub bytes_for_array : Past → ℕ → List ℕ → List ℕ
bytes_for_array past h bytes =
    option_map_or (λ a. (cleaned past (with_bytes bytes a.block)).bytes) (option_and_then (λ o. o.array) (object_at past.state h)) bytes

abbrev pub bytes_for_parameter : Past → ℕ → ℕ → List ℕ → List ℕ
bytes_for_parameter past h number bytes =
    option_map_or (λ loan. (cleaned past (content_of_loan loan bytes)).bytes)
    (option_and_then (λ o. parameter_loan number o.parameter_loans) (object_at past.state h)) bytes

-- a call as it is entered: what an unmap brings back from a loan that is out is cleaned, and any other bytes stay as they were handed in
unfoldable pub entered : Past → Call → Call
entered past (UnmapArray h number bytes) =
    UnmapArray h number (if is_array_loan_out past.state h number (length bytes) then bytes_for_array past h bytes else bytes)
entered past (UnmapParameterArray h name number bytes) =
    UnmapParameterArray h name number
    (if is_parameter_loan_out past.state h name number (length bytes) then bytes_for_parameter past h number bytes else bytes)
entered past call = call
