-- What contracts see of a strided loan: the elements that it lends.
use Rattle.std.specs.Prelude.{ℕ, ◌*◌, nat_lt, List, length, if◌then◌else◌}
use Rattle.dev_types.specs.Blocks.{part_of, element_of, with_part, FitsBlock}
use Rattle.dev_types.specs.declared.data_types.DataType.{DataType}
use Rattle.dev_types.specs.declared.values.Value.{Value}

-- so many elements of a type, each `stride` bytes behind the one before, from the front of the bytes
pub record Elements : Type 0 where
  pub ty : DataType
  pub stride : ℕ
  pub count : ℕ
  pub bytes : List ℕ

-- they lie in the bytes
abbrev pub Fit : Elements → Type 0
Fit e = FitsBlock e.ty e.stride e.count (length e.bytes)

-- the own bytes of element i, and its value
abbrev pub part : Elements → ℕ → List ℕ
part e i = part_of e.ty e.stride e.bytes i

abbrev pub element : Elements → ℕ → Value
element e i = element_of e.ty e.stride e.bytes i

-- the same elements, but for the bytes of element i
abbrev pub with_element : Elements → ℕ → List ℕ → Elements
with_element e i own = record e { bytes = with_part e.ty e.stride e.bytes i own }

-- where element i begins; behind the last element, the end of the bytes
abbrev pub cut_before : ℕ → ℕ → ℕ → ℕ → ℕ
cut_before stride count len i = if nat_lt i count then i * stride else len

abbrev pub start_of : Elements → ℕ → ℕ
start_of e i = cut_before e.stride e.count (length e.bytes) i
