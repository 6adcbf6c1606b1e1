-- A loan of an array, as contracts see it.
use Rattle.std.specs.Prelude.{ℕ, List, length}
use Rattle.std.specs.List.{refill}
use Rattle.byte_view.specs.Elements.{Elements}

-- the array that is lent, the number of the loan, and the elements as they stand in the loan's own bytes
pub record Loan : Type 0 where
  pub array : ℕ
  pub number : ℕ
  pub elements : Elements

-- the loan with other bytes: as many as it has, so they are cut or filled up from its own
abbrev pub with_bytes : Loan → List ℕ → Loan
with_bytes l bytes = record l { elements = record l.elements { bytes = refill (length l.elements.bytes) l.elements.bytes bytes } }
