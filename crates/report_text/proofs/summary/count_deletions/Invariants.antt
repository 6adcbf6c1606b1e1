use Rattle.std.proofs.Common.{◌≡◌, take}
use Rattle.std.specs.Prelude.{count_by}
use Rattle.report_text.specs.Reports.{is_deletion}
use Rattle.report_text.proofs.summary.count_deletions.Given as goal

-- the deletions among the first i notices are counted
abbrev pub invariant-loop-i : goal.invariant-loop-i
invariant-loop-i l = l.count ≡ count_by is_deletion (take l.i l.notices)
