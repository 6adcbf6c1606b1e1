-- What reads take from a source and writes give to a sink, where they tell their bytes.
use Rattle.std.specs.Prelude.{◌≡◌, ◌↔◌, ℕ, ◌<◌, ◌≤◌, List, [], length, take, Option, Result, IfOk, IfSome}
use Rattle.std.specs.Io.KnownBytes.{Appends, Consumes}

-- a read into a buffer of this length gives no byte exactly where nothing was left
abbrev pub EndsExactly : {E : Type 0} → Option (List ℕ) → Result ℕ E → ℕ → Type 0
EndsExactly left result room = IfSome left (λ xs. IfOk result (λ n. 0 < room → (n ≡ 0) ↔ (xs ≡ [])))

-- a source lost some bytes, n of them at most
abbrev pub ConsumesUpTo : ℕ → Option (List ℕ) → Option (List ℕ) → Type 0
ConsumesUpTo n old new = (bytes : List ℕ) × (length bytes ≤ n) × Consumes old new bytes

-- a sink grew by some of the first of these bytes
abbrev pub AppendsPrefix : Option (List ℕ) → Option (List ℕ) → List ℕ → Type 0
AppendsPrefix old new bytes = (n : ℕ) × (n ≤ length bytes) × Appends old new (take n bytes)
