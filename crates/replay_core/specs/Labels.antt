-- What labels stand for, and the calls that a trace's calls make of them.
use Rattle.std.specs.Prelude.{ℕ, ◌-◌, ◌*◌, ◌==◌, ◌&&◌, ◌||◌, not, nat_lt, Bool, List, [], ◌∷◌, ◌++◌, Option, Some, None, drop, length, map, take, if◌then◌else◌}
use Rattle.std.specs.Int.{to_le_bytes, w64}
use Rattle.std.specs.List.{find, range_with_len}
use Rattle.std.specs.Option.{option_map, option_map_or, option_to_list}
use Rattle.std.specs.Str.{bytes_eq}
use Rattle.dev_types.specs.DataTypes.{byte_size, is_element_type}
use Rattle.dev_types.specs.declared.data_types.DataType.{DataType}
use Rattle.dev_types.specs.declared.handles.Origin.{Origin}
use Rattle.dev_types.specs.declared.handles.Origin.TheVariants.{Managed}
use Rattle.dev_types.specs.declared.values.Value.{Value}
use Rattle.dev_types.specs.declared.values.Value.TheVariants as value
use Rattle.replay_core.specs.declared.bindings.Binding.{Binding}
use Rattle.seq_model.specs.Refusals.{is_bad_layout}
use Rattle.seq_model.specs.Steps.{zeros}
use Rattle.seq_model.specs.declared.calls.Call.{Call}
use Rattle.seq_model.specs.declared.calls.Call.TheVariants as call
use Rattle.seq_model.specs.declared.calls.Reply.{Reply}
use Rattle.seq_model.specs.declared.calls.Reply.TheVariants as reply
use Rattle.trace_text.specs.declared.calls.ArrayData.{ArrayData}
use Rattle.trace_text.specs.declared.calls.ArrayData.TheVariants.{Values, Objects}
use Rattle.trace_text.specs.declared.calls.Query.{Query}
use Rattle.trace_text.specs.declared.calls.Query.TheVariants.{Property, Subtypes, ObjectInfo, ParameterInfo}
use Rattle.trace_text.specs.declared.calls.SetValue.{SetValue}
use Rattle.trace_text.specs.declared.calls.SetValue.TheVariants.{Plain, Object}
use Rattle.trace_text.specs.declared.calls.TraceCall.{TraceCall}
use Rattle.trace_text.specs.declared.calls.TraceCall.TheVariants.{New, NewArray, Retain, Release, Set, Unset, UnsetAll, Commit, WithArray, WithParam, WithFrame, EndLoan, Render, Discard, Ready}
use Rattle.trace_text.specs.declared.calls.TraceCall.TheVariants as op

-- a caller knows what was bound in earlier phases, and what it bound itself
abbrev pub is_known : ℕ → ℕ → Binding → Bool
is_known phase caller b = nat_lt b.phase phase || (b.phase == phase && b.caller == caller)

-- what a label stands for to a caller in a phase; one that it does not know stands for handle 0
abbrev pub handle_of : List Binding → ℕ → ℕ → List ℕ → ℕ
handle_of bound phase caller label = option_map_or (λ b. b.handle) (find (λ b. bytes_eq b.label label && is_known phase caller b) bound) 0

-- the meaning of labels
abbrev pub Meaning : Type 0
Meaning = List ℕ → ℕ

-- the bytes of the elements that are given for an array, one after the other
abbrev pub parts_of : Meaning → DataType → ℕ → ArrayData → List (List ℕ)
parts_of meaning elem count (Values bytes) = map (λ i. take (byte_size elem) (drop (i * byte_size elem) bytes)) (range_with_len 0 count)
parts_of meaning elem count (Objects labels) = map (λ label. to_le_bytes w64 (meaning label)) labels

-- elements at a stride, with zeros between them
abbrev pub spread : ℕ → List (List ℕ) → List ℕ
spread stride [] = []
spread stride (part ∷ []) = part
spread stride (part ∷ next ∷ parts) = part ++ zeros (stride - length part) ++ spread stride (next ∷ parts)

-- the block that is given for an array; for one that the device makes itself, and for one that it refuses for the type of its elements or their layout,
-- it is empty
abbrev pub given_bytes : Meaning → DataType → ℕ → ℕ → Origin → ArrayData → List ℕ
given_bytes meaning elem count stride Managed given = []
given_bytes meaning elem count stride _ given =
    if is_element_type elem && not (is_bad_layout elem count stride) then spread stride (parts_of meaning elem count given) else []

-- the value that a parameter is set to
abbrev pub value_of_set : Meaning → SetValue → Value
value_of_set meaning (Plain v) = v
value_of_set meaning (Object t label) = value.Object t (meaning label)

-- a query
abbrev pub call_of_query : Meaning → Query → Call
call_of_query meaning (Property object name) = call.GetProperty (option_map_or meaning object 0) name
call_of_query meaning (Subtypes t) = call.Subtypes t
call_of_query meaning (ObjectInfo t subtype) = call.ObjectInfo t subtype
call_of_query meaning (ParameterInfo t subtype name) = call.ParameterInfo t subtype name

-- the call of the device that a call of a trace makes; the end of a loan makes the unmap of that loan, which is told elsewhere
abbrev pub call_of : Meaning → TraceCall → Option Call
call_of meaning (New label t subtype) = Some (call.NewObject t subtype)
call_of meaning (NewArray label elem count stride origin given) =
    Some (call.NewArray elem count stride origin (given_bytes meaning elem count stride origin given))
call_of meaning (Retain object) = Some (call.Retain (meaning object))
call_of meaning (Release object) = Some (call.Release (meaning object))
call_of meaning (Set object name v) = Some (call.SetParameter (meaning object) name (value_of_set meaning v))
call_of meaning (Unset object name) = Some (call.UnsetParameter (meaning object) name)
call_of meaning (UnsetAll object) = Some (call.UnsetAll (meaning object))
call_of meaning (Commit object) = Some (call.Commit (meaning object))
call_of meaning (WithArray array write) = Some (call.MapArray (meaning array))
call_of meaning (WithParam object name elem count write) = Some (call.MapParameterArray (meaning object) name elem count)
call_of meaning (WithFrame frame channel) = Some (call.MapFrame (meaning frame) channel)
call_of meaning EndLoan = None
call_of meaning (Render frame) = Some (call.RenderFrame (meaning frame))
call_of meaning (Discard frame) = Some (call.DiscardFrame (meaning frame))
call_of meaning (Ready frame wait) = Some (call.FrameReady (meaning frame) wait)
call_of meaning (op.Query query) = Some (call_of_query meaning query)

-- the label that a call of a trace binds to what it makes
abbrev pub label_of : TraceCall → Option (List ℕ)
label_of (New label _ _) = Some label
label_of (NewArray label _ _ _ _ _) = Some label
label_of _ = None

-- the binding that a creation adds, if it was done
abbrev pub binding_of : ℕ → ℕ → TraceCall → Reply → List Binding
binding_of phase caller c (reply.Made h) =
    option_to_list (option_map (λ label. record { label = label; handle = h; phase = phase; caller = caller }) (label_of c))
binding_of phase caller c _ = []
