use Rattle.std.proofs.Common.{◌≡◌, ◌++◌, take}
use Rattle.ppm_out.specs.Lines.{types_word}
use Rattle.ppm_out.specs.Ppm.{KeepsFront}
use Rattle.ppm_out.proofs.replies.push_types.Given as goal

-- the first i names are written
abbrev pub invariant-loop-i : goal.invariant-loop-i
invariant-loop-i l = record {
  written : l.out.items ≡ l.initial.out.items ++ types_word (take l.i l.types);
  kept : KeepsFront l.initial.out.items l.out.items;
}
