-- The form of each call: its keys, and what stands under them.
use Rattle.std.specs.Prelude.{ℕ, ℤ, ◌*◌, ◌==◌, ◌&&◌, List, [], ◌∷◌, Bool, true, false, not, Option, Some, None, is_none, is_some, option_map, option_and_then, nat_le, length, codes, if◌then◌else◌}
use Rattle.std.specs.Str.{bytes_eq}
use Rattle.dev_types.specs.DataTypes.{byte_size, is_element_type, is_object_type}
use Rattle.dev_types.specs.Words.{type_named, type_worded, channel_named, word_of_origin}
use Rattle.dev_types.specs.declared.data_types.DataType.{DataType}
use Rattle.dev_types.specs.declared.data_types.DataType.TheVariants as ty
use Rattle.dev_types.specs.declared.handles.Channel.{Channel}
use Rattle.dev_types.specs.declared.handles.Origin.{Origin}
use Rattle.dev_types.specs.declared.handles.Origin.TheVariants.{Captured, Shared, Managed}
use Rattle.dev_types.specs.declared.values.Value.{Value}
use Rattle.dev_types.specs.declared.values.Value.TheVariants as value
use Rattle.serde_json.specs.Data.{Data, string}
use Rattle.serde_json.specs.Find.{get, as_bool, as_str}
use Rattle.trace_text.specs.Json.{list_of, name_of, count_of, whole_of, each, from2, from3, from4, field, field_or, has_only}
use Rattle.trace_text.specs.Components.{component_count, bytes_of_numbers, value_of_numbers}
use Rattle.trace_text.specs.Ops.{query_named}
use Rattle.trace_text.specs.declared.ops.Op.{Op}
use Rattle.trace_text.specs.declared.ops.Op.TheVariants as op
use Rattle.trace_text.specs.declared.ops.Asked.{Asked}
use Rattle.trace_text.specs.declared.ops.Asked.TheVariants as asked
use Rattle.trace_text.specs.declared.calls.ArrayData.{ArrayData}
use Rattle.trace_text.specs.declared.calls.ArrayData.TheVariants.{Values, Objects}
use Rattle.trace_text.specs.declared.calls.Components.{Components}
use Rattle.trace_text.specs.declared.calls.Components.TheVariants.{Numbers, Label}
use Rattle.trace_text.specs.declared.calls.Query.{Query}
use Rattle.trace_text.specs.declared.calls.Query.TheVariants as query
use Rattle.trace_text.specs.declared.calls.SetValue.{SetValue}
use Rattle.trace_text.specs.declared.calls.SetValue.TheVariants.{Plain, Object}
use Rattle.trace_text.specs.declared.calls.TraceCall.{TraceCall}
use Rattle.trace_text.specs.declared.calls.TraceCall.TheVariants as call
use Rattle.trace_text.specs.declared.calls.Write.{Write}

-- a data type by its name, as `SCALAR_VEC3`
abbrev pub type_of : Data → Option DataType
type_of d = option_and_then type_named (as_str d)

-- an object type by its word, as `camera`; and one that objects are made of, so no array
abbrev pub kind_of : Data → Option DataType
kind_of d = option_and_then type_worded (as_str d)

abbrev pub is_made : DataType → Bool
is_made ty.Array1D = false
is_made t = true

abbrev pub made_kind_of : Data → Option DataType
made_kind_of d = option_and_then (λ t. if is_made t then Some t else None) (kind_of d)

-- ---- new_array

-- the elements of a new array: so many labels for objects, so many times the components for numbers, and any list at all where
-- no array has elements of the type
abbrev pub objects_of : ℕ → List Data → Option ArrayData
objects_of count ds = if length ds == count then option_map Objects (each name_of ds) else None

abbrev pub numbers_of : DataType → ℕ → List Data → Option ArrayData
numbers_of t count ds =
    if length ds == count * component_count t then option_map Values (option_and_then (bytes_of_numbers t) (each whole_of ds)) else None

abbrev pub elements_of : DataType → ℕ → List Data → Option ArrayData
elements_of t count ds =
    if not (is_element_type t) then Some (Values [])
    else if is_object_type t then objects_of count ds
    else numbers_of t count ds

-- the application's word and the elements, which come with memory of its own
abbrev pub lent_of : DataType → ℕ → Data → Option (ℕ × ArrayData)
lent_of t count d =
    from2 (λ user elements. (user, elements)) (field count_of (codes "user") d)
    (field (λ v. option_and_then (elements_of t count) (list_of v)) (codes "data") d)

-- memory of the device's comes with neither
abbrev pub has_neither : Data → Bool
has_neither d = is_none (get (codes "user") d) && is_none (get (codes "data") d)

-- whose memory it is, by the word, and the elements
abbrev pub memory_named : List ℕ → DataType → ℕ → Data → Option (Origin × ArrayData)
memory_named word t count d =
    if bytes_eq word (word_of_origin (Captured 0)) then option_map (λ m. (Captured m.0, m.1)) (lent_of t count d)
    else if bytes_eq word (word_of_origin (Shared 0)) then option_map (λ m. (Shared m.0, m.1)) (lent_of t count d)
    else if bytes_eq word (word_of_origin Managed) && has_neither d then Some (Managed, Values [])
    else None

abbrev pub memory_of : DataType → ℕ → Data → Option (Origin × ArrayData)
memory_of t count d = option_and_then (λ word. memory_named word t count d) (field as_str (codes "origin") d)

abbrev pub array_of : DataType → ℕ → Data → Option TraceCall
array_of t count d =
    from3 (λ label stride memory. call.NewArray label t count stride memory.0 memory.1) (field name_of (codes "label") d)
    (field_or (byte_size t) count_of (codes "stride") d) (memory_of t count d)

-- ---- set

-- the components of a value: one number for one component, a list for several
abbrev pub components_in : DataType → Data → Option (List ℤ)
components_in t d = if component_count t == 1 then option_map (λ z. z ∷ []) (whole_of d) else option_and_then (each whole_of) (list_of d)

abbrev pub number_value_of : DataType → Data → Option Value
number_value_of t d = option_and_then (value_of_numbers t) (components_in t d)

abbrev pub text_value_of : Data → Option Value
text_value_of d = option_and_then (λ s. if nat_le (length s) 256 then Some (value.Str s) else None) (as_str d)

abbrev pub set_value_of : DataType → Data → Option SetValue
set_value_of ty.Str d = option_map Plain (text_value_of d)
set_value_of ty.TypeName d = option_map (λ t. Plain (value.TypeName t)) (type_of d)
set_value_of t d = if is_object_type t then option_map (Object t) (name_of d) else option_map Plain (number_value_of t d)

-- ---- what is written into a loan

-- exactly one label, or numbers alone
abbrev pub components_of : List Data → Option Components
components_of (string s ∷ []) = option_map Label (name_of (string s))
components_of ds = option_map Numbers (each whole_of ds)

abbrev pub pair_in : List Data → Option Write
pair_in (index ∷ components ∷ []) =
    from2 (λ i part. record { index = i; element = part }) (count_of index) (option_and_then components_of (list_of components))
pair_in _ = None

abbrev pub pair_of : Data → Option Write
pair_of d = option_and_then pair_in (list_of d)

abbrev pub write_of : Data → Option (List Write)
write_of d = option_and_then (each pair_of) (list_of d)

-- ---- queries

-- the answer, where the object has no other keys
abbrev pub only : {A : Type 0} → List (List ℕ) → Data → Option A → Option A
only keys d answer = if has_only keys d then answer else None

-- no object is asked where the key is missing
abbrev pub asked_object : Data → Option (Option (List ℕ))
asked_object d = field_or None (λ v. option_map Some (name_of v)) (codes "object") d

abbrev pub query_form : Asked → Data → Option Query
query_form asked.Property d =
    only (codes "op" ∷ codes "what" ∷ codes "object" ∷ codes "name" ∷ []) d
    (from2 query.Property (asked_object d) (field name_of (codes "name") d))
query_form asked.Subtypes d =
    only (codes "op" ∷ codes "what" ∷ codes "type" ∷ []) d
    (option_map query.Subtypes (field kind_of (codes "type") d))
query_form asked.ObjectInfo d =
    only (codes "op" ∷ codes "what" ∷ codes "type" ∷ codes "subtype" ∷ []) d
    (from2 query.ObjectInfo (field kind_of (codes "type") d) (field name_of (codes "subtype") d))
query_form asked.ParameterInfo d =
    only (codes "op" ∷ codes "what" ∷ codes "type" ∷ codes "subtype" ∷ codes "name" ∷ []) d
    (from3 query.ParameterInfo (field kind_of (codes "type") d) (field name_of (codes "subtype") d) (field name_of (codes "name") d))

-- the word of `what` says which
abbrev pub asked_of : Data → Option Asked
asked_of d = option_and_then query_named (as_str d)

abbrev pub query_of : Data → Option Query
query_of d = option_and_then (λ a. query_form a d) (field asked_of (codes "what") d)

-- ---- the calls

-- calls that have an object, and those that have a frame, and no more
abbrev pub of_object : Data → Option (List ℕ)
of_object d = only (codes "op" ∷ codes "object" ∷ []) d (field name_of (codes "object") d)

abbrev pub of_frame : Data → Option (List ℕ)
of_frame d = only (codes "op" ∷ codes "frame" ∷ []) d (field name_of (codes "frame") d)

-- the calls inside a loan are a list, whatever stands in it
abbrev pub with_calls : {A : Type 0} → Data → Option A → Option A
with_calls d answer = if is_some (field list_of (codes "calls") d) then answer else None

-- what is written into a loan; nothing where the key is missing
abbrev pub writes_of : Data → Option (List Write)
writes_of d = field_or [] write_of (codes "write") d

abbrev pub channel_of : Data → Option Channel
channel_of d = option_and_then channel_named (as_str d)

abbrev pub new_of : Data → Option TraceCall
new_of d =
    only (codes "op" ∷ codes "label" ∷ codes "type" ∷ codes "subtype" ∷ []) d
    (from3 call.New (field name_of (codes "label") d) (field made_kind_of (codes "type") d)
    (field_or (codes "default") name_of (codes "subtype") d))

abbrev pub new_array_of : Data → Option TraceCall
new_array_of d =
    only (codes "op" ∷ codes "label" ∷ codes "elem" ∷ codes "count" ∷ codes "stride" ∷ codes "origin" ∷ codes "user" ∷ codes "data" ∷ []) d
    (option_and_then (λ t. option_and_then (λ count. array_of t count d) (field count_of (codes "count") d)) (field type_of (codes "elem") d))

abbrev pub set_of : Data → Option TraceCall
set_of d =
    only (codes "op" ∷ codes "object" ∷ codes "name" ∷ codes "type" ∷ codes "value" ∷ []) d
    (from3 call.Set (field name_of (codes "object") d) (field name_of (codes "name") d)
    (option_and_then (λ t. field (set_value_of t) (codes "value") d) (field type_of (codes "type") d)))

abbrev pub unset_of : Data → Option TraceCall
unset_of d =
    only (codes "op" ∷ codes "object" ∷ codes "name" ∷ []) d
    (from2 call.Unset (field name_of (codes "object") d) (field name_of (codes "name") d))

abbrev pub with_array_of : Data → Option TraceCall
with_array_of d =
    only (codes "op" ∷ codes "array" ∷ codes "write" ∷ codes "calls" ∷ []) d
    (with_calls d (from2 call.WithArray (field name_of (codes "array") d) (writes_of d)))

abbrev pub with_param_of : Data → Option TraceCall
with_param_of d =
    only (codes "op" ∷ codes "object" ∷ codes "name" ∷ codes "elem" ∷ codes "count" ∷ codes "write" ∷ codes "calls" ∷ []) d
    (with_calls d (option_and_then (λ object. from4 (call.WithParam object) (field name_of (codes "name") d)
    (field type_of (codes "elem") d) (field count_of (codes "count") d) (writes_of d)) (field name_of (codes "object") d)))

abbrev pub with_frame_of : Data → Option TraceCall
with_frame_of d =
    only (codes "op" ∷ codes "frame" ∷ codes "channel" ∷ codes "calls" ∷ []) d
    (with_calls d (from2 call.WithFrame (field name_of (codes "frame") d) (field channel_of (codes "channel") d)))

abbrev pub ready_of : Data → Option TraceCall
ready_of d =
    only (codes "op" ∷ codes "frame" ∷ codes "wait" ∷ []) d
    (from2 call.Ready (field name_of (codes "frame") d) (field_or false as_bool (codes "wait") d))

-- the call, where it has the form of its op
abbrev pub call_form : Op → Data → Option TraceCall
call_form op.New d = new_of d
call_form op.NewArray d = new_array_of d
call_form op.Retain d = option_map call.Retain (of_object d)
call_form op.Release d = option_map call.Release (of_object d)
call_form op.Set d = set_of d
call_form op.Unset d = unset_of d
call_form op.UnsetAll d = option_map call.UnsetAll (of_object d)
call_form op.Commit d = option_map call.Commit (of_object d)
call_form op.WithArray d = with_array_of d
call_form op.WithParam d = with_param_of d
call_form op.WithFrame d = with_frame_of d
call_form op.Render d = option_map call.Render (of_frame d)
call_form op.Discard d = option_map call.Discard (of_frame d)
call_form op.Ready d = ready_of d
call_form op.Query d = option_map call.Query (query_of d)
