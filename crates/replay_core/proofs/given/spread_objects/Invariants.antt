use Rattle.std.proofs.Common.{◌≡◌, ◌++◌, List, ℕ, map, drop}
use Rattle.std.specs.Int.{to_le_bytes, w64}
use Rattle.replay_core.specs.Labels.{Meaning, spread}
use Rattle.replay_core.specs.Views.{meaning_of}
use Rattle.replay_core.proofs.given.spread_objects.Given as goal

abbrev pub parts : Meaning → List (List ℕ) → List (List ℕ)
parts meaning names = map (λ label. to_le_bytes w64 (meaning label)) names

-- the bytes so far, before those of the rest, are all bytes
abbrev pub invariant-loop-i : goal.invariant-loop-i
invariant-loop-i l = l.bytes.items ++ spread l.stride (drop l.i (parts (meaning_of l.labels) l.names)) ≡ spread l.stride (parts (meaning_of l.labels) l.names)
