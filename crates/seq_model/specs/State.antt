-- The state of a device: its objects by their handles, the flights that were stopped, and the next handle.
use Rattle.std.specs.Prelude.{ℕ, ◌+◌, ◌==◌, Bool, false, List, [], ◌∷◌, ◌++◌, Option, Some, None, map}
use Rattle.std.specs.BTreeMap.{is_at}
use Rattle.std.specs.List.{filter_map, find}
use Rattle.std.specs.Map.{lookup, set_value}
use Rattle.std.specs.Option.{is_some, option_and_then, option_map, option_map_or, unwrap_or}
use Rattle.std.specs.Ordering.{nat_cmp}
use Rattle.dev_types.specs.DataTypes.{byte_size}
use Rattle.dev_types.specs.declared.data_types.DataType.{DataType}
use Rattle.dev_types.specs.declared.handles.Channel.{Channel}
use Rattle.dev_types.specs.declared.handles.Origin.{Origin}
use Rattle.dev_types.specs.declared.values.Value.{Value}
use Rattle.kind_tables.specs.SceneObjects.{Block, SceneObject, SceneObjects}
use Rattle.kind_tables.specs.declared.kinds.Kind.{Kind}

-- what a frame has to show: nothing, a picture that is being rendered since place t, or the picture of the render at place t (ANARI 1.0
-- Specification, Frame)
pub data Phase : Type 0 where
  Empty : Phase
  Flight : ℕ → Phase
  Done : ℕ → Phase

-- a new array that an application writes for a parameter: the place of the entry that lent it, the parameter, the elements
pub record ParameterLoan : Type 0 where
  pub number : ℕ
  pub name : List ℕ
  pub elem : DataType
  pub count : ℕ

-- the content that a parameter array has with these bytes: its elements without gaps
abbrev pub content_of_loan : ParameterLoan → List ℕ → Block
content_of_loan loan bytes = record { elem = loan.elem; count = loan.count; stride = byte_size loan.elem; bytes = bytes }

-- the loan with this number
abbrev pub parameter_loan : ℕ → List ParameterLoan → Option ParameterLoan
parameter_loan number loans = find (λ loan. loan.number == number) loans

-- the same elements with other bytes
abbrev pub with_bytes : List ℕ → Block → Block
with_bytes bytes b = record { elem = b.elem; count = b.count; stride = b.stride; bytes = bytes }

-- an array: its content, where its memory comes from, and the place of the entry that lent it, while it is mapped
pub record ArrayState : Type 0 where
  pub block : Block
  pub origin : Origin
  pub loan : Option ℕ

-- an object: its kind, its staged and its committed parameters, the arrays that are written for its parameters; the array, where it is
-- one; and as a frame what it has to show, and its mapped channels, each with the place of the entry that lent it
pub record Object : Type 0 where
  pub kind : Kind
  pub staged : List (List ℕ × Value)
  pub committed : List (List ℕ × Value)
  pub parameter_loans : List ParameterLoan
  pub array : Option ArrayState
  pub phase : Phase
  pub channels : List (Channel × ℕ)

-- the objects by rising handle; the tickets of the flights that were stopped and have not left yet; and the handle of the next creation
pub record State : Type 0 where
  pub objects : List (ℕ × Object)
  pub stopped : List ℕ
  pub next : ℕ

-- a device without objects
abbrev pub empty : State
empty = record { objects = []; stopped = []; next = 1 }

-- the object with this handle, if it is there
abbrev pub object_at : State → ℕ → Option Object
object_at s h = lookup (is_at (nat_cmp h)) s.objects

-- the state with a change of the object with this handle, if it is there
abbrev pub changed_at : ℕ → (Object → Object) → State → State
changed_at h change s =
    record s { objects = unwrap_or (option_map (λ o. set_value (is_at (nat_cmp h)) s.objects (change o)) (object_at s h)) s.objects }

-- the state with one more object, under the next handle
abbrev pub with_object : Object → State → State
with_object o s = record { objects = s.objects ++ (s.next, o) ∷ []; stopped = s.stopped; next = s.next + 1 }

-- the loan of an object that is a mapped array
abbrev pub array_loan : Object → Option ℕ
array_loan o = option_and_then (λ a. a.loan) o.array

-- an object and all objects as a scene sees them
abbrev pub scene_object : Object → SceneObject
scene_object o = record { kind = o.kind; committed = o.committed; block = option_map (λ a. a.block) o.array; mapped = is_some (array_loan o) }

abbrev pub scene_objects : State → SceneObjects
scene_objects s = map (λ entry. (entry.0, scene_object entry.1)) s.objects

-- the ticket of a frame in flight
abbrev pub ticket_in : Phase → Option ℕ
ticket_in (Flight t) = Some t
ticket_in _ = None

-- the object is a frame in flight with this ticket
abbrev pub is_in_flight : ℕ → Object → Bool
is_in_flight t o = option_map_or (λ u. u == t) (ticket_in o.phase) false

-- the tickets of all flights: of the frames in flight, and those that were stopped
abbrev pub flights : State → List ℕ
flights s = filter_map (λ entry. ticket_in entry.1.phase) s.objects ++ s.stopped
