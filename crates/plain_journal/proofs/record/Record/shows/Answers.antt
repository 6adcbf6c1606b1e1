use Rattle.std.proofs.Common.{rules, subst, sym}
use Rattle.past_laws.specs.Rendered.{WasRendered}
use Rattle.past_laws.proofs.RenderFacts.{was_rendered}
use Rattle.plain_journal.proofs.record.Record.shows.Goals as goal

pub returns-clause-rendered : goal.returns-clause-rendered
returns-clause-rendered c = subst (WasRendered c.args.self.now c.args.h) (sym (search rules)) (was_rendered c.args.self.now (search rules) c.args.h)
