use Rattle.std.proofs.Common.{ℕ, ◌≡◌, ◌*◌, take, get_or, ◌<◌, ◌^◌}
use Rattle.std.specs.List.{flat_map}
use Rattle.dev_types.specs.ValueBytes.{unsigned_bytes}
use Rattle.dev_types.proofs.values.write_unsigned.Given as goal

abbrev pub invariant-loop-i : goal.invariant-loop-i
invariant-loop-i g l = record {
  written : take (4 * l.i) l.into ≡ flat_map unsigned_bytes (take l.i l.numbers);
  fit : (k : ℕ) → k < l.i → get_or l.numbers k 0 < 2 ^ 32;
}
