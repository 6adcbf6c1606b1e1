-- How an entry moves the counts of public references.
use Rattle.std.specs.Prelude.{ℕ, ◌≡◌, ◌<◌, ◌≤◌, ◌+◌, ◌-◌, ◌^◌, List, length}
use Rattle.seq_model.specs.declared.calls.Call.{Call}
use Rattle.seq_model.specs.declared.calls.Call.TheVariants.{NewObject, NewArray, Retain, Release, UnmapParameterArray}
use Rattle.seq_model.specs.declared.calls.Reply.{Reply}
use Rattle.seq_model.specs.declared.calls.Reply.TheVariants as reply
use Rattle.plain_objects.specs.Counts.{count_at}

-- the next handle is made, and there is room for its count
abbrev pub HasPlace : List ℕ → ℕ → ℕ → Type 0
HasPlace counts capacity made = (made ≡ length counts + 1) × (length counts < capacity)

-- a handle that was made, of which one more reference can be counted
abbrev pub IsRetainable : List ℕ → ℕ → Type 0
IsRetainable counts h = (1 ≤ h) × (h ≤ length counts) × (count_at counts h < 2 ^ 64 - 1)

-- a call that was answered so can be counted without more memory
abbrev pub IsCountable : List ℕ → ℕ → Call → Reply → Type 0
IsCountable counts capacity (NewObject _ _) (reply.Made made) = HasPlace counts capacity made
IsCountable counts capacity (NewArray _ _ _ _ _) (reply.Made made) = HasPlace counts capacity made
IsCountable counts capacity (UnmapParameterArray _ _ _ _) (reply.Made made) = HasPlace counts capacity made
IsCountable counts capacity (Retain h) reply.Done = IsRetainable counts h
IsCountable counts capacity (Release h) reply.Done = 1 ≤ count_at counts h
IsCountable counts capacity _ _ = Unit {0}
