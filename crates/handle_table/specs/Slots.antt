-- How a table lays out its values. No public clause cites this module.
use Rattle.std.specs.Prelude.{ℕ, ◌+◌, List, [], ◌∷◌, Option, Some, None}
use Rattle.handle_table.specs.declared.table.Slot.{Slot}
use Rattle.handle_table.specs.declared.table.Slot.TheVariants.{Empty, Filled}

module _ {T : Type 0} where
  -- the value in a slot, if there is one
  abbrev pub value_of : Slot T → Option T
  value_of Empty = None
  value_of (Filled value) = Some value

  -- the values in the slots, each with its handle, where the first slot has this handle
  abbrev pub entries_from : ℕ → List (Slot T) → List (ℕ × T)
  entries_from first [] = []
  entries_from first (Empty ∷ rest) = entries_from (first + 1) rest
  entries_from first (Filled value ∷ rest) = (first, value) ∷ entries_from (first + 1) rest
