-- A loan of a new array that is written for a parameter, as contracts see it.
use Rattle.std.specs.Prelude.{ℕ, ◌*◌, List, length, replicate}
use Rattle.std.specs.List.{refill}
use Rattle.byte_view.specs.Elements.{Elements}
use Rattle.dev_types.specs.DataTypes.{byte_size}
use Rattle.dev_types.specs.declared.data_types.DataType.{DataType}

-- the object and the name of the parameter, the number of the loan, and the elements as they stand in the loan's own bytes
pub record ParameterLoan : Type 0 where
  pub object : ℕ
  pub name : List ℕ
  pub number : ℕ
  pub elements : Elements

-- elements without gaps, all zero
abbrev pub zero_elements : DataType → ℕ → Elements
zero_elements elem count = record { ty = elem; stride = byte_size elem; count = count; bytes = replicate (count * byte_size elem) 0 }

-- the loan with other bytes: as many as it has, so they are cut or filled up from its own
abbrev pub with_bytes : ParameterLoan → List ℕ → ParameterLoan
with_bytes l bytes = record l { elements = record l.elements { bytes = refill (length l.elements.bytes) l.elements.bytes bytes } }
