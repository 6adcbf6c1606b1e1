-- The objects of a device as a scene sees them, and the values of their parameters (ANARI 1.0 Specification, object parameters and commit).
use Rattle.std.specs.Prelude.{ℕ, ℤ, zero, suc, pos, Bool, List, [], ◌∷◌, Option, Some, None, map, slice_index_or}
use Rattle.std.specs.BTreeMap.{insert_entry, is_at}
use Rattle.std.specs.Cmp.Lexicographic.{slice_cmp}
use Rattle.std.specs.List.{range_with_len}
use Rattle.std.specs.List.{filter_map}
use Rattle.std.specs.Map.{lookup, remove_entry}
use Rattle.std.specs.Option.{option_and_then, option_map, option_or}
use Rattle.std.specs.Ordering.{nat_cmp}
use Rattle.dev_types.specs.Blocks.{element_of}
use Rattle.dev_types.specs.declared.data_types.DataType.{DataType}
use Rattle.dev_types.specs.declared.values.Value.{Value}
use Rattle.dev_types.specs.declared.values.Value.TheVariants.{Uint32, Uint32Vec2, Uint32Vec3, Scalar, ScalarVec3, ScalarMat34, Object}
use Rattle.fx_math.specs.Ids.{no_id}
use Rattle.fx_math.specs.declared.transforms.Mat34.{Mat34}
use Rattle.fx_math.specs.declared.vectors.Vec3.{Vec3}
use Rattle.kind_tables.specs.Rows.{identity, row_of}
use Rattle.kind_tables.specs.declared.kinds.Kind.{Kind}

-- the elements of an array: their type, how many, how far apart, and the bytes in which they stand
pub record Block : Type 0 where
  pub elem : DataType
  pub count : ℕ
  pub stride : ℕ
  pub bytes : List ℕ

-- an object: its kind, its committed parameters, the elements where it is an array, and whether it is mapped
pub record SceneObject : Type 0 where
  pub kind : Kind
  pub committed : List (List ℕ × Value)
  pub block : Option Block
  pub mapped : Bool

-- the objects of a device by their handles
abbrev pub SceneObjects : Type 0
SceneObjects = List (ℕ × SceneObject)

-- the object with this handle, if there is one
abbrev pub object_at : SceneObjects → ℕ → Option SceneObject
object_at objects h = lookup (is_at (nat_cmp h)) objects

-- the value that stands in a map of parameters under a name
abbrev pub value_named : List ℕ → List (List ℕ × Value) → Option Value
value_named name values = lookup (is_at (slice_cmp nat_cmp name)) values

-- a map of parameters with a value under a name, and without one
abbrev pub with_value : List ℕ → Value → List (List ℕ × Value) → List (List ℕ × Value)
with_value name v values = insert_entry (slice_cmp nat_cmp) values name v

abbrev pub without_value : List ℕ → List (List ℕ × Value) → List (List ℕ × Value)
without_value name values = remove_entry (is_at (slice_cmp nat_cmp name)) values

-- the default of a parameter, if its row has one
abbrev pub default_of : Kind → List ℕ → Option Value
default_of kind name = option_and_then (λ row. row.default) (row_of kind name)

-- the value of a parameter: the committed one, else its default
abbrev pub value_at : SceneObject → List ℕ → Option Value
value_at o name = option_or (value_named name o.committed) (default_of o.kind name)

-- the object that a value names; handle 0 is none
abbrev pub object_in : Value → Option ℕ
object_in (Object _ zero) = None
object_in (Object _ (suc h)) = Some (suc h)
object_in _ = None

-- the objects that the values of a map of parameters name, once for each and in the order of their names
abbrev pub objects_of : List (List ℕ × Value) → List ℕ
objects_of values = filter_map (λ entry. object_in entry.1) values

-- the object that was committed under a name
abbrev pub object_named : SceneObjects → SceneObject → List ℕ → Option SceneObject
object_named objects o name = option_and_then (object_at objects) (option_and_then object_in (value_named name o.committed))

-- the numbers of a parameter, by its type: a scalar, three scalars, a transform, an id, a size
abbrev pub scalar_in : Option Value → ℤ
scalar_in (Some (Scalar z)) = z
scalar_in _ = pos 0

abbrev pub scalars_in : Option Value → List ℤ
scalars_in (Some (ScalarVec3 zs)) = zs
scalars_in _ = pos 0 ∷ pos 0 ∷ pos 0 ∷ []

abbrev pub matrix_in : Option Value → Mat34
matrix_in (Some (ScalarMat34 zs)) = record { c = zs }
matrix_in _ = record { c = identity }

abbrev pub id_in : Option Value → ℕ
id_in (Some (Uint32 n)) = n
id_in _ = no_id

abbrev pub sizes_in : Option Value → List ℕ
sizes_in (Some (Uint32Vec2 ns)) = ns
sizes_in _ = []

abbrev pub indices_in : Option Value → List ℕ
indices_in (Some (Uint32Vec3 ns)) = ns
indices_in _ = []

-- three scalars as a vector
abbrev pub vector : List ℤ → Vec3
vector zs = record { x = slice_index_or zs 0 (pos 0); y = slice_index_or zs 1 (pos 0); z = slice_index_or zs 2 (pos 0) }

abbrev pub vector_in : Option Value → Vec3
vector_in value = vector (scalars_in value)

-- the numbers of an object's parameters
abbrev pub scalar_of : SceneObject → List ℕ → ℤ
scalar_of o name = scalar_in (value_at o name)

abbrev pub scalars_of : SceneObject → List ℕ → List ℤ
scalars_of o name = scalars_in (value_at o name)

abbrev pub vector_of : SceneObject → List ℕ → Vec3
vector_of o name = vector_in (value_at o name)

-- element i of a block
abbrev pub element : Block → ℕ → Value
element b i = element_of b.elem b.stride b.bytes i

-- all elements of a block, in order
abbrev pub elements : Block → List Value
elements b = map (element b) (range_with_len 0 b.count)

-- the elements of the array that was committed under a name, if there is one
abbrev pub array_named : SceneObjects → SceneObject → List ℕ → Option (List Value)
array_named objects o name = option_map elements (option_and_then (λ array. array.block) (object_named objects o name))

-- the objects that a block's elements name, each with its index; an element 0 names none
abbrev pub objects_in : Block → List (ℕ × ℕ)
objects_in b = filter_map (λ i. option_map (λ h. (i, h)) (object_in (element b i))) (range_with_len 0 b.count)
