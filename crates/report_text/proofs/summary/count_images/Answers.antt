use Rattle.std.proofs.Common.{◌+◌, ap, ◌∙◌}
use Rattle.report_text.specs.Reports.{is_image}
use Rattle.report_text.proofs.ReportFacts.{counted_next}
use Rattle.report_text.proofs.summary.count_images.Goals as goal

pub loop-i-preserved : goal.loop-i-preserved
loop-i-preserved c =
    ap (λ one. c.loop-i.count + one) c.from-count.ensures
    ∙ counted_next is_image c.args.history.now c.loop-i.i c.get.result.now c.is_image.result c.loop-i.count c.get.ensures c.is_image.ensures c.loop-i.invariant
