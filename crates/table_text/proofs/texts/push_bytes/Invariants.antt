use Rattle.std.proofs.Common.{◌≡◌, ◌++◌, map, take}
use Rattle.std.specs.Prelude.{pos}
use Rattle.table_text.specs.Tables.{spaced_numbers}
use Rattle.table_text.proofs.texts.push_bytes.Given as goal

-- the first i numbers are written
abbrev pub invariant-loop-i : goal.invariant-loop-i
invariant-loop-i l = l.out.items ≡ l.initial.out.items ++ spaced_numbers (map pos (take l.i l.numbers))
