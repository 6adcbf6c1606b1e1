use Rattle.std.proofs.Common.{ℕ, ◌≡◌, ◌*◌, take, get_or, pos, ◌<◌, FitsSigned, w32}
use Rattle.std.specs.List.{flat_map}
use Rattle.dev_types.specs.ValueBytes.{signed_bytes}
use Rattle.dev_types.proofs.values.write_signed.Given as goal

abbrev pub invariant-loop-i : goal.invariant-loop-i
invariant-loop-i g l = record {
  written : take (4 * l.i) l.into ≡ flat_map signed_bytes (take l.i l.numbers);
  fit : (k : ℕ) → k < l.i → FitsSigned w32 (get_or l.numbers k (pos 0));
}
