-- The loans of a replay: what is written into one where it is granted, and the unmap that ends it.
use Rattle.std.specs.Prelude.{ℕ, ◌*◌, nat_lt, Bool, true, false, List, ◌∷◌, Option, Some, None, fold, if◌then◌else◌}
use Rattle.std.specs.Option.{option_and_then, option_map, option_map_or}
use Rattle.dev_types.specs.Blocks.{with_part}
use Rattle.dev_types.specs.DataTypes.{byte_size, is_object_type}
use Rattle.dev_types.specs.ValueBytes.{bytes_of}
use Rattle.dev_types.specs.declared.data_types.DataType.{DataType}
use Rattle.dev_types.specs.declared.values.Value.{Value}
use Rattle.dev_types.specs.declared.values.Value.TheVariants as value
use Rattle.kind_tables.specs.SceneObjects.{Block}
use Rattle.replay_core.specs.Labels.{Meaning}
use Rattle.seq_model.specs.State.{object_at, with_bytes}
use Rattle.seq_model.specs.Steps.{Past, next_place, zeros}
use Rattle.seq_model.specs.declared.calls.Call.{Call}
use Rattle.seq_model.specs.declared.calls.Call.TheVariants as call
use Rattle.seq_model.specs.declared.calls.Reply.{Reply}
use Rattle.seq_model.specs.declared.calls.Reply.TheVariants as reply
use Rattle.trace_text.specs.Components.{value_of_numbers}
use Rattle.trace_text.specs.declared.calls.Components.{Components}
use Rattle.trace_text.specs.declared.calls.Components.TheVariants.{Numbers, Label}
use Rattle.trace_text.specs.declared.calls.TraceCall.{TraceCall}
use Rattle.trace_text.specs.declared.calls.TraceCall.TheVariants.{WithArray, WithParam, WithFrame}
use Rattle.trace_text.specs.declared.calls.Write.{Write}

-- the element of a type that is written, where what is written fits the type
abbrev pub written_value : Meaning → DataType → Components → Option Value
written_value meaning elem (Numbers numbers) = value_of_numbers elem numbers
written_value meaning elem (Label label) = if is_object_type elem then Some (value.Object elem (meaning label)) else None

-- a block with one more element written; what has no place in it, or does not fit, is left out
abbrev pub with_element : ℕ → Block → Value → Block
with_element i b v = with_bytes (with_part b.elem b.stride b.bytes i (bytes_of v)) b

abbrev pub with_write : Meaning → Block → Write → Block
with_write meaning b w =
    if nat_lt w.index b.count then option_map_or (with_element w.index b) (written_value meaning b.elem w.element) b else b

-- a block with all that is written, in order
abbrev pub written : Meaning → List Write → Block → Block
written meaning writes b = fold (with_write meaning) b writes

-- the content of an array, and that of a new array for a parameter
abbrev pub content_of : Past → ℕ → Option Block
content_of past h = option_map (λ a. a.block) (option_and_then (λ o. o.array) (object_at past.state h))

abbrev pub new_content : DataType → ℕ → Block
new_content elem count = record { elem = elem; count = count; stride = byte_size elem; bytes = zeros (count * byte_size elem) }

-- the content of the array that a call maps
abbrev pub mapped_content : Past → Meaning → TraceCall → Option Block
mapped_content past meaning (WithArray array _) = content_of past (meaning array)
mapped_content past meaning _ = None

-- the unmap that will end a loan, as it is handed in, with what was written into it, where the reply granted one: by the content that was mapped,
-- and the place of the loan
abbrev pub unmap_by : Option Block → ℕ → Meaning → TraceCall → Reply → Option Call
unmap_by content place meaning (WithArray array write) (reply.Lent number) =
    option_map (λ b. call.UnmapArray (meaning array) number (written meaning write b).bytes) content
unmap_by content place meaning (WithParam object name elem count write) (reply.Lent number) =
    Some (call.UnmapParameterArray (meaning object) name number (written meaning write (new_content elem count)).bytes)
unmap_by content place meaning (WithFrame frame channel) (reply.Mapped _ _ _ _) = Some (call.UnmapFrame (meaning frame) place)
unmap_by content place meaning _ _ = None

abbrev pub unmap_of : Past → Meaning → TraceCall → Reply → Option Call
unmap_of past meaning c r = unmap_by (mapped_content past meaning c) (next_place past) meaning c r

-- the call ends a loan
abbrev pub is_unmap : Call → Bool
is_unmap (call.UnmapArray _ _ _) = true
is_unmap (call.UnmapParameterArray _ _ _ _) = true
is_unmap (call.UnmapFrame _ _) = true
is_unmap _ = false

-- the call opens a loan
abbrev pub opens : TraceCall → Bool
opens (WithArray _ _) = true
opens (WithParam _ _ _ _ _) = true
opens (WithFrame _ _) = true
opens _ = false

-- the loans that are open after a call with its reply, the innermost first
abbrev pub loans_after : Past → Meaning → TraceCall → Reply → List (Option Call) → List (Option Call)
loans_after past meaning c r loans = if opens c then unmap_of past meaning c r ∷ loans else loans
