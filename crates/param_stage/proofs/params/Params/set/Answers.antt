use Rattle.std.proofs.Common.{rules}
use Rattle.param_stage.proofs.Counting.{set_accounts}
use Rattle.param_stage.proofs.params.Params.set.Goals as goal

pub returns-clause-maps : goal.returns-clause-maps
returns-clause-maps c = search rules

pub returns-clause-added : goal.returns-clause-added
returns-clause-added c = search rules

pub returns-clause-gone : goal.returns-clause-gone
returns-clause-gone c = search rules

pub returns-clause-counts : goal.returns-clause-counts
returns-clause-counts c = set_accounts c.args.self.now _ _ _ c.args.name.now c.args.v.now c.self.inside.staged.entries c.insert.ensures.was_ordered (search rules) (returns-clause-maps c) (returns-clause-added c) (returns-clause-gone c)
