use Rattle.std.proofs.Common.{◌≡◌, ◌++◌, take}
use Rattle.table_text.specs.Tables.{spaced_numbers}
use Rattle.table_text.proofs.texts.push_signed.Given as goal

-- the first i numbers are written
abbrev pub invariant-loop-i : goal.invariant-loop-i
invariant-loop-i l = l.out.items ≡ l.initial.out.items ++ spaced_numbers (take l.i l.numbers)
