-- Elements in a block of bytes: element i is the value of the `size` bytes from i * stride.
use Rattle.std.specs.Prelude.{ℕ, zero, suc, ◌+◌, ◌*◌, ◌≤◌, List, ◌++◌, take, drop, IsTrue}
use Rattle.dev_types.specs.DataTypes.{byte_size, is_element_type}
use Rattle.dev_types.specs.ValueBytes.{value_of}
use Rattle.dev_types.specs.declared.data_types.DataType.{DataType}
use Rattle.dev_types.specs.declared.values.Value.{Value}

-- where the last of a number of elements of one size ends
abbrev pub end_of : ℕ → ℕ → ℕ → ℕ
end_of size stride zero = 0
end_of size stride (suc last) = last * stride + size

-- so many bytes are needed for a number of elements of a type
abbrev pub needed_length : DataType → ℕ → ℕ → ℕ
needed_length t stride count = end_of (byte_size t) stride count

-- arrays may have elements of the type, they do not overlap, and the last of them ends within the block
abbrev pub FitsBlock : DataType → ℕ → ℕ → ℕ → Type 0
FitsBlock t stride count len = IsTrue (is_element_type t) × (byte_size t ≤ stride) × (needed_length t stride count ≤ len)

-- the own bytes of element i
abbrev pub part_of : DataType → ℕ → List ℕ → ℕ → List ℕ
part_of t stride bytes i = take (byte_size t) (drop (i * stride) bytes)

-- element i
abbrev pub element_of : DataType → ℕ → List ℕ → ℕ → Value
element_of t stride bytes i = value_of t (part_of t stride bytes i)

-- the block with other bytes in the place of element i
abbrev pub with_part : DataType → ℕ → List ℕ → ℕ → List ℕ → List ℕ
with_part t stride bytes i part = take (i * stride) bytes ++ (part ++ drop (i * stride + byte_size t) bytes)
