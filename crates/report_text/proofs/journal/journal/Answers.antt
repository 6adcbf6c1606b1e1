use Rattle.report_text.proofs.ReportFacts.{lines_next}
use Rattle.report_text.proofs.journal.journal.Goals as goal

pub entries-preserved : goal.entries-preserved
entries-preserved c = lines_next c.args.history.now c.entries.i c.get.result.now _ _ c.get.ensures c.entries.invariant c.in_ok-push_line.ensures
