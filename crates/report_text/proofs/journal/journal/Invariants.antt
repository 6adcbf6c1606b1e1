use Rattle.std.proofs.Common.{◌≡◌, take}
use Rattle.report_text.specs.Reports.{lines_from}
use Rattle.report_text.proofs.journal.journal.Given as goal

-- the lines of the first i entries are written
abbrev pub invariant-entries : goal.invariant-entries
invariant-entries l = l.bytes.items ≡ lines_from 1 (take l.i l.history)
