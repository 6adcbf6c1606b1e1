-- Why something is not told.
use Rattle.std.specs.Prelude.{◌≡◌, ◌⊎◌, Option, Some}
use Rattle.dev_types.specs.declared.refusals.Refused.{Refused}
use Rattle.dev_types.specs.declared.refusals.Refused.TheVariants.{NoMemory}

-- memory was wanting
abbrev pub IsWant : Refused → Type 0
IsWant refused = refused ≡ NoMemory

-- this refusal applies, or memory was wanting
abbrev pub IsReason : Option Refused → Refused → Type 0
IsReason applies refused = IsWant refused ⊎ (applies ≡ Some refused)
