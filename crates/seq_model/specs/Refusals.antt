-- Why a call is refused after a past. A call that several refusals apply to is refused with the one of the lowest number.
use Rattle.std.specs.Prelude.{ℕ, zero, suc, ◌*◌, ◌==◌, ◌^◌, ◌&&◌, ◌||◌, not, nat_lt, Bool, true, false, List, [], ◌∷◌, ◌++◌, Option, Some, None, length, map, if◌then◌else◌}
use Rattle.std.specs.Bool.{then_some}
use Rattle.std.specs.List.{list_any}
use Rattle.std.specs.Option.{is_none, is_some, option_and_then, option_map_or}
use Rattle.std.specs.Str.{bytes_eq}
use Rattle.dev_types.specs.Blocks.{needed_length}
use Rattle.dev_types.specs.DataTypes.{byte_size, is_element_type, is_object_type}
use Rattle.dev_types.specs.ValueBytes.{is_well_typed, type_of}
use Rattle.dev_types.specs.Words.{name_of_channel}
use Rattle.dev_types.specs.declared.data_types.DataType.{DataType}
use Rattle.dev_types.specs.declared.data_types.DataType.TheVariants as ty
use Rattle.dev_types.specs.declared.handles.Channel.{Channel}
use Rattle.dev_types.specs.declared.handles.Origin.{Origin}
use Rattle.dev_types.specs.declared.handles.Origin.TheVariants.{Managed}
use Rattle.dev_types.specs.declared.refusals.Refused.{Refused}
use Rattle.dev_types.specs.declared.refusals.Refused.TheVariants.{BadHandle, NotHeld, WrongKind, BadSubtype, BadType, UnknownObjectParameter, BadShape, ArrayMapped, NotMapped, InFlight, NoPicture, ChannelMapped, NoChannel, NoSuchName}
use Rattle.dev_types.specs.declared.values.Value.{Value}
use Rattle.dev_types.specs.declared.values.Value.TheVariants as value
use Rattle.kind_tables.specs.Kinds.{is_same_type, kind_of, subtypes_of, type_of_kind}
use Rattle.kind_tables.specs.Rows.{row_of}
use Rattle.kind_tables.specs.SceneObjects.{objects_in}
use Rattle.kind_tables.specs.WalkRefusals.{fault_of, first_answer, first_mapped}
use Rattle.kind_tables.specs.Walks.{Visit, walk}
use Rattle.kind_tables.specs.declared.kinds.Kind.{Kind}
use Rattle.kind_tables.specs.declared.rows.Row.{Row}
use Rattle.seq_model.specs.Histories.{public}
use Rattle.seq_model.specs.Pictures.{has_channel, tiles_at}
use Rattle.seq_model.specs.Properties.{refusal_of_property, refusal_of_version}
use Rattle.seq_model.specs.State.{ArrayState, ParameterLoan, Phase, Empty, Flight, Done, State, array_loan, object_at, scene_objects}
use Rattle.seq_model.specs.Steps.{Past}
use Rattle.seq_model.specs.declared.calls.Call.{Call}
use Rattle.seq_model.specs.declared.calls.Call.TheVariants.{NewObject, NewArray, Retain, Release, SetParameter, UnsetParameter, UnsetAll, Commit, MapArray, UnmapArray, MapParameterArray, UnmapParameterArray, RenderFrame, FrameReady, DiscardFrame, MapFrame, UnmapFrame, GetProperty, Subtypes, ObjectInfo, ParameterInfo}

-- the first of some refusals that applies
abbrev pub first_of : List (Option Refused) → Option Refused
first_of refusals = first_answer (λ refused. refused) refusals

-- what the objects of a past are asked: whether one is there, is held by the application, and has a type
abbrev pub dead : Past → ℕ → Option Refused
dead past h = then_some (is_none (object_at past.state h)) (BadHandle h)

abbrev pub not_held : Past → ℕ → Option Refused
not_held past h = then_some (public past.seen h == 0) (NotHeld h)

abbrev pub has_type : Past → ℕ → DataType → Bool
has_type past h t = option_map_or (λ o. is_same_type (type_of_kind o.kind) t) (object_at past.state h) false

abbrev pub wrong_kind : Past → ℕ → DataType → Option Refused
wrong_kind past h t = then_some (not (has_type past h t)) (WrongKind h)

-- the object of a call is there and held
abbrev pub own : Past → ℕ → List (Option Refused)
own past h = dead past h ∷ not_held past h ∷ []

-- and has a type
abbrev pub own_of_type : Past → ℕ → DataType → List (Option Refused)
own_of_type past h t = own past h ++ wrong_kind past h t ∷ []

-- the most bytes of an array, and the greatest stride
abbrev pub most_bytes : ℕ
most_bytes = 2 ^ 28

-- the bytes that come with an array of an origin are not enough, or a managed array comes with bytes
abbrev pub is_wrong_length : Origin → ℕ → ℕ → Bool
is_wrong_length Managed needed given = nat_lt 0 given
is_wrong_length _ needed given = nat_lt given needed

-- the elements of an array overlap, or take too many bytes
abbrev pub is_bad_layout : DataType → ℕ → ℕ → Bool
is_bad_layout elem count stride =
    nat_lt stride (byte_size elem) || nat_lt most_bytes stride || nat_lt most_bytes (needed_length elem stride count)

-- the shape of an array is one that no array may have
abbrev pub is_bad_shape : DataType → ℕ → ℕ → Origin → List ℕ → Bool
is_bad_shape elem count stride origin bytes =
    is_bad_layout elem count stride
    || nat_lt most_bytes (length bytes)
    || is_wrong_length origin (needed_length elem stride count) (length bytes)

-- what is asked of the objects that an array's elements name: that each is there, then that each is held, then that each has their type
abbrev pub bad_elements : Past → DataType → List ℕ → List (Option Refused)
bad_elements past elem handles =
    first_answer (dead past) handles ∷ first_answer (not_held past) handles ∷ first_answer (λ h. wrong_kind past h elem) handles ∷ []

-- the handles in the elements of an array; a managed one, whose bytes are none yet, has none
abbrev pub given_handles : DataType → ℕ → ℕ → List ℕ → List ℕ
given_handles elem count stride bytes = map (λ named. named.1) (objects_in (record { elem = elem; count = count; stride = stride; bytes = bytes }))

abbrev pub refusals_of_new_array : Past → DataType → ℕ → ℕ → Origin → List ℕ → List (Option Refused)
refusals_of_new_array past elem count stride origin bytes =
    if not (is_element_type elem) then Some BadType ∷ []
    else if is_bad_shape elem count stride origin bytes then Some BadShape ∷ []
    else bad_elements past elem (given_handles elem count stride bytes)

-- the object that a value names, also one that is not there
abbrev pub object_of_value : Value → Option ℕ
object_of_value (value.Object _ h) = Some h
object_of_value _ = None

-- the value is an object of another type than it says
abbrev pub wrong_value : Past → Value → Option Refused
wrong_value past (value.Object t h) = if is_object_type t then wrong_kind past h t else None
wrong_value past _ = None

-- an array has the elements that a row asks for, where it asks for arrays
abbrev pub has_elements : Past → Option ℕ → Option DataType → Bool
has_elements past h None = true
has_elements past h (Some elem) =
    option_map_or (λ o. option_map_or (λ a. is_same_type a.block.elem elem) o.array false) (option_and_then (object_at past.state) h) false

-- a row permits a value
abbrev pub permits : Past → Row → Value → Bool
permits past row v = is_same_type (type_of v) row.ty && has_elements past (object_of_value v) row.elem

-- the row of an object's parameter
abbrev pub row_at : Past → ℕ → List ℕ → Option Row
row_at past h name = option_and_then (λ o. row_of o.kind name) (object_at past.state h)

-- a name without a row takes any value but an object
abbrev pub refusals_of_set : Past → ℕ → List ℕ → Value → List (Option Refused)
refusals_of_set past h name v =
    dead past h ∷
    option_and_then (dead past) (object_of_value v) ∷
    not_held past h ∷
    option_and_then (not_held past) (object_of_value v) ∷
    wrong_value past v ∷
    then_some (not (is_well_typed v) || option_map_or (λ row. not (permits past row v)) (row_at past h name) false) BadType ∷
    then_some (is_none (row_at past h name) && is_some (object_of_value v)) UnknownObjectParameter ∷ []

-- the array is mapped
abbrev pub array_mapped : Past → ℕ → Option Refused
array_mapped past h = then_some (is_some (option_and_then array_loan (object_at past.state h))) (ArrayMapped h)

-- a loan of this number is out, of an array with so many bytes
abbrev pub is_array_out : ℕ → ℕ → ArrayState → Bool
is_array_out number len a = option_map_or (λ n. n == number) a.loan false && length a.block.bytes == len

abbrev pub is_array_loan_out : State → ℕ → ℕ → ℕ → Bool
is_array_loan_out s h number len = option_map_or (is_array_out number len) (option_and_then (λ o. o.array) (object_at s h)) false

-- a loan of this number is out, for this parameter, with so many bytes
abbrev pub is_parameter_out : List ℕ → ℕ → ℕ → ParameterLoan → Bool
is_parameter_out name number len loan = loan.number == number && bytes_eq loan.name name && loan.count * byte_size loan.elem == len

abbrev pub is_parameter_loan_out : State → ℕ → List ℕ → ℕ → ℕ → Bool
is_parameter_loan_out s h name number len =
    option_map_or (λ o. list_any (is_parameter_out name number len) o.parameter_loans) (object_at s h) false

-- a channel of a frame was lent under this number
abbrev pub is_channel_out : State → ℕ → ℕ → Bool
is_channel_out s h number = option_map_or (λ o. list_any (λ m. m.1 == number) o.channels) (object_at s h) false

-- the row takes arrays of these elements
abbrev pub takes_arrays_of : DataType → Row → Bool
takes_arrays_of elem row = is_same_type row.ty ty.Array1D && option_map_or (is_same_type elem) row.elem false

abbrev pub refusals_of_map_parameter : Past → ℕ → List ℕ → DataType → ℕ → List (Option Refused)
refusals_of_map_parameter past h name elem count =
    own past h ++
    then_some (not (is_element_type elem) || option_map_or (λ row. not (takes_arrays_of elem row)) (row_at past h name) false) BadType ∷
    then_some (is_none (row_at past h name)) UnknownObjectParameter ∷
    then_some (nat_lt most_bytes (count * byte_size elem)) BadShape ∷ []

-- what a frame has to show
abbrev pub phase_at : Past → ℕ → Phase
phase_at past h = option_map_or (λ o. o.phase) (object_at past.state h) Empty

-- the frame is in flight; how many of its tiles were seen finished is said by the reply
abbrev pub in_flight : Past → Phase → Option Refused
in_flight past (Flight t) = Some (InFlight 0 (tiles_at past.seen t))
in_flight past _ = None

-- the frame has neither flight nor picture
abbrev pub no_picture : Phase → Option Refused
no_picture Empty = Some NoPicture
no_picture _ = None

-- the frame did not ask for the channel where it was rendered
abbrev pub no_channel : Past → Phase → Channel → Option Refused
no_channel past (Done t) c = then_some (not (has_channel past.seen t c)) NoChannel
no_channel past _ c = None

-- the channels of a frame that are mapped
abbrev pub mapped_at : Past → ℕ → List (Channel × ℕ)
mapped_at past h = option_map_or (λ o. o.channels) (object_at past.state h) []

abbrev pub is_same_channel : Channel → Channel → Bool
is_same_channel c d = bytes_eq (name_of_channel c) (name_of_channel d)

-- some channel of the frame is mapped, and this one is
abbrev pub some_channel_mapped : Past → ℕ → Option Refused
some_channel_mapped past h = then_some (nat_lt 0 (length (mapped_at past h))) ChannelMapped

abbrev pub this_channel_mapped : Past → ℕ → Channel → Option Refused
this_channel_mapped past h c = then_some (list_any (λ m. is_same_channel m.0 c) (mapped_at past h)) ChannelMapped

-- what a walk from an object of a past visits
abbrev pub walk_at : Past → ℕ → List Visit
walk_at past h = walk (scene_objects past.state) h

abbrev pub refusals_of_render : Past → ℕ → List (Option Refused)
refusals_of_render past h =
    own_of_type past h ty.Frame ++
    first_mapped (walk_at past h) ∷
    in_flight past (phase_at past h) ∷
    some_channel_mapped past h ∷
    fault_of (scene_objects past.state) (walk_at past h) ∷ []

abbrev pub refusals_of_map_frame : Past → ℕ → Channel → List (Option Refused)
refusals_of_map_frame past h c =
    own_of_type past h ty.Frame ++
    in_flight past (phase_at past h) ∷
    no_picture (phase_at past h) ∷
    this_channel_mapped past h c ∷
    no_channel past (phase_at past h) c ∷ []

-- handle 0 stands for the device, which tells its version and is not asked whether it lives
abbrev pub refusals_of_query : Past → ℕ → List ℕ → List (Option Refused)
refusals_of_query past zero name = refusal_of_version name ∷ []
refusals_of_query past (suc h) name =
    own past (suc h) ++
    option_and_then (λ o. refusal_of_property (scene_objects past.state) (suc h) o.kind name) (object_at past.state (suc h)) ∷ []

-- a parameter of a kind, if there is such a kind
abbrev pub refusal_of_info : Option Kind → List ℕ → Option Refused
refusal_of_info None name = Some BadSubtype
refusal_of_info (Some kind) name = then_some (is_none (row_of kind name)) NoSuchName

-- the refusals of a call, in the order in which they are asked
unfoldable pub refusals_of : Past → Call → List (Option Refused)
refusals_of past (NewObject t subtype) = then_some (is_none (kind_of t subtype)) BadSubtype ∷ []
refusals_of past (NewArray elem count stride origin bytes) = refusals_of_new_array past elem count stride origin bytes
refusals_of past (Retain h) = own past h
refusals_of past (Release h) = own past h
refusals_of past (SetParameter h name v) = refusals_of_set past h name v
refusals_of past (UnsetParameter h name) = own past h
refusals_of past (UnsetAll h) = own past h
refusals_of past (Commit h) = own past h
refusals_of past (MapArray h) = own_of_type past h ty.Array1D ++ array_mapped past h ∷ []
refusals_of past (UnmapArray h number bytes) = then_some (not (is_array_loan_out past.state h number (length bytes))) NotMapped ∷ []
refusals_of past (MapParameterArray h name elem count) = refusals_of_map_parameter past h name elem count
refusals_of past (UnmapParameterArray h name number bytes) =
    then_some (not (is_parameter_loan_out past.state h name number (length bytes))) NotMapped ∷ []
refusals_of past (RenderFrame h) = refusals_of_render past h
refusals_of past (FrameReady h wait) = own_of_type past h ty.Frame ++ no_picture (phase_at past h) ∷ []
refusals_of past (DiscardFrame h) = own_of_type past h ty.Frame ++ some_channel_mapped past h ∷ []
refusals_of past (MapFrame h c) = refusals_of_map_frame past h c
refusals_of past (UnmapFrame h number) = then_some (not (is_channel_out past.state h number)) NotMapped ∷ []
refusals_of past (GetProperty h name) = refusals_of_query past h name
refusals_of past (Subtypes t) = then_some (length (subtypes_of t) == 0) NoSuchName ∷ []
refusals_of past (ObjectInfo t subtype) = then_some (is_none (kind_of t subtype)) BadSubtype ∷ []
refusals_of past (ParameterInfo t subtype name) = refusal_of_info (kind_of t subtype) name ∷ []

-- the refusal of a call, if one applies
unfoldable pub refusal : Past → Call → Option Refused
refusal past call = first_of (refusals_of past call)
