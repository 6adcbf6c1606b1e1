use Rattle.std.proofs.Common.{◌≡◌, ◌*◌, take}
use Rattle.ppm_out.specs.Lines.{hex_digits}
use Rattle.ppm_out.proofs.hex.write_hex.Given as goal

-- the digits of the first i bytes are written
abbrev pub invariant-loop-i : goal.invariant-loop-i
invariant-loop-i l = take (2 * l.i) l.into ≡ hex_digits (take l.i l.bytes)
