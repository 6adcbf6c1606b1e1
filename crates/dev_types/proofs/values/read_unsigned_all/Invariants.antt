use Rattle.std.proofs.Common.{ℕ, ◌≡◌, ◌+◌, ◌*◌, ◌++◌, length, take, drop}
use Rattle.std.specs.List.{flat_map}
use Rattle.dev_types.specs.ValueBytes.{unsigned_bytes, unsigned_numbers}
use Rattle.dev_types.proofs.values.read_unsigned_all.Given as goal

abbrev pub invariant-loop-i : goal.invariant-loop-i
invariant-loop-i g l = record {
  many : length l.numbers ≡ g.row.N;
  read : (m : ℕ) → l.i + m ≡ g.row.N → take l.i l.numbers ++ unsigned_numbers m (drop (4 * l.i) l.bytes) ≡ unsigned_numbers g.row.N l.bytes;
  same : flat_map unsigned_bytes (take l.i l.numbers) ≡ take (4 * l.i) l.bytes;
}
