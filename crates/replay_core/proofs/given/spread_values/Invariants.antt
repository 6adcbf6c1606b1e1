use Rattle.std.proofs.Common.{◌≡◌, ◌*◌, ◌++◌, List, ℕ, map, take, drop}
use Rattle.std.specs.List.{range_with_len}
use Rattle.dev_types.specs.DataTypes.{byte_size}
use Rattle.dev_types.specs.declared.data_types.DataType.{DataType}
use Rattle.replay_core.specs.Labels.{spread}
use Rattle.replay_core.proofs.given.spread_values.Given as goal

abbrev pub parts : DataType → ℕ → List ℕ → List (List ℕ)
parts elem count values = map (λ i. take (byte_size elem) (drop (i * byte_size elem) values)) (range_with_len 0 count)

-- the bytes so far, before those of the rest, are all bytes
abbrev pub invariant-loop-i : goal.invariant-loop-i
invariant-loop-i l = l.bytes.items ++ spread l.stride (drop l.i (parts l.elem l.count l.values)) ≡ spread l.stride (parts l.elem l.count l.values)
