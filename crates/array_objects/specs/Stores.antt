-- A store of arrays, as contracts see it.
use Rattle.std.specs.Prelude.{◌≡◌, ◌≢◌, ℕ, ◌⊎◌, List, length, Option, Some, None, option_map, IsSome}
use Rattle.std.specs.BTreeMap.{is_at}
use Rattle.std.specs.Map.{lookup, set_value}
use Rattle.std.specs.Ordering.{nat_cmp}
use Rattle.dev_types.specs.Blocks.{FitsBlock}
use Rattle.dev_types.specs.declared.refusals.Refused.{Refused}
use Rattle.dev_types.specs.declared.refusals.Refused.TheVariants.{ArrayMapped, NoMemory}
use Rattle.byte_view.specs.Elements.{Elements}
use Rattle.array_objects.specs.declared.arrays.Array.{Array}
use Rattle.array_objects.specs.declared.arrays.Block.{Block}

-- the arrays by rising handle: each with its block, and with the number of the loan that is out, if one is
abbrev pub Arrays : Type 0
Arrays = List (ℕ × Array)

-- the array at a handle
abbrev pub array_at : Arrays → ℕ → Option Array
array_at m h = lookup (is_at (nat_cmp h)) m

-- its block
abbrev pub block_at : Arrays → ℕ → Option Block
block_at m h = option_map (λ a. a.block) (array_at m h)

-- the number of its loan; none where it is not mapped
abbrev pub loan_of : Option Array → Option ℕ
loan_of None = None
loan_of (Some a) = a.loan

abbrev pub loan_at : Arrays → ℕ → Option ℕ
loan_at m h = loan_of (array_at m h)

-- the elements in a block
abbrev pub elements_of : Block → Elements
elements_of b = record { ty = b.ty; stride = b.stride; count = b.count; bytes = b.bytes }

-- they lie in its bytes
abbrev pub Fits : Block → Type 0
Fits b = FitsBlock b.ty b.stride b.count (length b.bytes)

-- so they do in every block of a store
abbrev pub AllFit : Arrays → Type 0
AllFit m = (h : ℕ) (a : Array) → array_at m h ≡ Some a → Fits a.block

-- an array while the loan of this number is out, and once a loan of it came back with this content
abbrev pub mapped : ℕ → Array → Array
mapped number a = record a { loan = Some number }

abbrev pub unmapped : List ℕ → Array → Array
unmapped content a = record a { block = record a.block { bytes = content }; loan = None }

-- the store with what is there at a handle changed
abbrev pub with_change : Arrays → ℕ → (Array → Array) → Option Array → Arrays
with_change m h change None = m
with_change m h change (Some a) = set_value (is_at (nat_cmp h)) m (change a)

abbrev pub changed_at : Arrays → ℕ → (Array → Array) → Arrays
changed_at m h change = with_change m h change (array_at m h)

-- a loan of this object, number and length is out
abbrev pub IsOut : Option Array → ℕ → ℕ → Type 0
IsOut None number len = ⊥
IsOut (Some a) number len = (a.loan ≡ Some number) × (length a.block.bytes ≡ len)

-- why a map was refused: the array is mapped, or there was no memory
abbrev pub IsMapRefusal : Arrays → ℕ → Refused → Type 0
IsMapRefusal m h refused = (IsSome (loan_at m h) × (refused ≡ ArrayMapped h)) ⊎ (refused ≡ NoMemory)

-- the new store has this at the handle, and each other handle keeps what it had
pub record ChangesAt (old new : Arrays) (h : ℕ) (array : Option Array) : Type 0 where
  pub changed : array_at new h ≡ array
  pub others : (other : ℕ) → other ≢ h → array_at new other ≡ array_at old other
