-- The objects of a device in two parts: what is kept of every object, and the arrays.
use Rattle.std.specs.Prelude.{ℕ, ◌+◌, ◌-◌, ◌==◌, not, List, [], ◌∷◌, ◌++◌, Option, Some, None, map}
use Rattle.std.specs.BTreeMap.{is_at}
use Rattle.std.specs.List.{filter, filter_map, range_with_len}
use Rattle.std.specs.Map.{lookup}
use Rattle.std.specs.Option.{option_and_then, option_map, option_map_or}
use Rattle.std.specs.Ordering.{nat_cmp}
use Rattle.dev_types.specs.declared.handles.Channel.{Channel}
use Rattle.dev_types.specs.declared.handles.Origin.{Origin}
use Rattle.kind_tables.specs.declared.kinds.Kind.{Kind}
use Rattle.param_stage.specs.Params.{ParamMaps}
use Rattle.array_objects.specs.Stores.{Arrays, array_at, elements_of}
use Rattle.array_objects.specs.declared.arrays.Block.{Block}
use Rattle.array_objects.specs.declared.arrays.Array.{Array}
use Rattle.dev_types.specs.declared.values.Value.{Value}
use Rattle.byte_view.specs.Elements.{Elements, element}
use Rattle.kind_tables.specs.declared.kinds.Kind.TheVariants.{Array as ArrayKind}
use Rattle.seq_model.specs.Life.{objects_of_elements}
use Rattle.seq_model.specs.Steps.{fresh, holding}
use Rattle.kind_tables.specs.SceneObjects.{Block as SceneBlock, object_in, with_value, without_value}
use Rattle.seq_model.specs.State.{ArrayState, Empty, Object, ParameterLoan, Phase}

-- what is kept of an object beside its array: also how many flights hold it
pub record Part : Type 0 where
  pub kind : Kind
  pub params : ParamMaps
  pub loans : List ParameterLoan
  pub phase : Phase
  pub channels : List (Channel × ℕ)
  pub holds : ℕ

-- an array of the store as the definitions see it
abbrev pub array_state : Array → ArrayState
array_state a = record {
  block = record { elem = a.block.ty; count = a.block.count; stride = a.block.stride; bytes = a.block.bytes };
  origin = a.block.origin;
  loan = a.loan;
}

-- an object by its two parts
abbrev pub object_of : Part → Option Array → Object
object_of part array = record {
  kind = part.kind;
  staged = part.params.staged;
  committed = part.params.committed;
  parameter_loans = part.loans;
  array = option_map array_state array;
  phase = part.phase;
  channels = part.channels;
}

-- a map whose values are changed, each by its key
abbrev pub keyed : {X Y : Type 0} → (ℕ → X → Y) → List (ℕ × X) → List (ℕ × Y)
keyed f es = map (λ e. (e.0, f e.0 e.1)) es

-- the value at a key
abbrev pub at : {X : Type 0} → ℕ → List (ℕ × X) → Option X
at h es = lookup (is_at (nat_cmp h)) es

-- the objects by rising handle, each of its part and the array at its handle
abbrev pub joined : Arrays → List (ℕ × Part) → List (ℕ × Object)
joined arrays parts = keyed (λ h part. object_of part (array_at arrays h)) parts

-- the flights that hold an object
abbrev pub holds_at : List (ℕ × Part) → ℕ → ℕ
holds_at parts h = option_map_or (λ (p : Part). p.holds) (at h parts) 0

-- what is kept of an object as it is made
abbrev pub fresh_part : Kind → Part
fresh_part kind = record { kind = kind; params = record { staged = []; committed = [] }; loans = []; phase = Empty; channels = []; holds = 0 }

-- a value staged among parameters
abbrev pub set_in : List ℕ → Value → ParamMaps → ParamMaps
set_in name v maps = record maps { staged = with_value name v maps.staged }

-- the staged values committed
abbrev pub commit_in : ParamMaps → ParamMaps
commit_in maps = record maps { committed = maps.staged }

-- the staged values without one of them, and without any
abbrev pub unset_in : List ℕ → ParamMaps → ParamMaps
unset_in name maps = record maps { staged = without_value name maps.staged }

abbrev pub unset_all_in : ParamMaps → ParamMaps
unset_all_in maps = record maps { staged = [] }

-- what else calls change of what is kept of an object: what a frame shows, its mapped channels, the arrays that are written for
-- parameters, and the flights that hold it
abbrev pub show_in : Phase → Part → Part
show_in phase p = record p { phase = phase }

abbrev pub map_in : Channel → ℕ → Part → Part
map_in channel number p = record p { channels = p.channels ++ (channel, number) ∷ [] }

abbrev pub unmap_in : ℕ → Part → Part
unmap_in number p = record p { channels = filter (λ m. not (m.1 == number)) p.channels }

abbrev pub lend_in : ParameterLoan → Part → Part
lend_in loan p = record p { loans = p.loans ++ loan ∷ [] }

abbrev pub end_in : ℕ → Part → Part
end_in number p = record p { loans = filter (λ loan. not (loan.number == number)) p.loans }

abbrev pub hold_in : Part → Part
hold_in p = record p { holds = p.holds + 1 }

abbrev pub unhold_in : Part → Part
unhold_in p = record p { holds = p.holds - 1 }

-- the objects that the elements below i name, in their order
abbrev pub named_below : Elements → ℕ → List ℕ
named_below e i = filter_map (λ k. object_in (element e k)) (range_with_len 0 i)

-- the objects that a block names, where there is one
abbrev pub named_in_block : Option Block → List ℕ
named_in_block block = option_map_or (λ b. named_below (elements_of b) b.count) block []

-- a block with other bytes
abbrev pub with_content : List ℕ → Block → Block
with_content bytes b = record b { bytes = bytes }

-- the bytes of a block, and of an array, and where their memory comes from
abbrev pub memory_of : Option Block → Option (List ℕ × Origin)
memory_of None = None
memory_of (Some b) = Some (b.bytes, b.origin)

abbrev pub memory_in : Option ArrayState → Option (List ℕ × Origin)
memory_in None = None
memory_in (Some a) = Some (a.block.bytes, a.origin)

-- an array as it is made, with this block
abbrev pub array_of : Block → Object
array_of b = fresh (ArrayKind b.ty) (Some (array_state (record { block = b; loan = None })))

-- a block of elements that are lent
abbrev pub block_of : Elements → SceneBlock
block_of e = record { elem = e.ty; count = e.count; stride = e.stride; bytes = e.bytes }

-- what the elements of an object would name if it had this content
abbrev pub named_with : List ℕ → Option Object → List ℕ
named_with bytes o = objects_of_elements (option_map (holding bytes) (option_and_then (λ o. o.array) o))
