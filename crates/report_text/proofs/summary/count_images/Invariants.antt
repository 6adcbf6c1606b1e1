use Rattle.std.proofs.Common.{◌≡◌, take}
use Rattle.std.specs.Prelude.{count_by}
use Rattle.report_text.specs.Reports.{is_image}
use Rattle.report_text.proofs.summary.count_images.Given as goal

-- the images of the first i entries are counted
abbrev pub invariant-loop-i : goal.invariant-loop-i
invariant-loop-i l = l.count ≡ count_by is_image (take l.i l.history)
