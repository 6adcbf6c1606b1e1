use Rattle.std.proofs.Common.{◌+◌, ap, ◌∙◌}
use Rattle.report_text.specs.Reports.{is_deletion}
use Rattle.report_text.proofs.ReportFacts.{counted_next}
use Rattle.report_text.proofs.summary.count_deletions.Goals as goal

pub loop-i-preserved : goal.loop-i-preserved
loop-i-preserved c =
    ap (λ one. c.loop-i.count + one) c.from-count.ensures
    ∙ counted_next is_deletion c.args.notices.now c.loop-i.i c.notice_at.result.now c.is_deletion.result c.loop-i.count c.notice_at.ensures c.is_deletion.ensures c.loop-i.invariant
