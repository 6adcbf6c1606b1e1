use Rattle.std.proofs.Common.{rules}
use Rattle.param_stage.proofs.Counting.{unset_accounts}
use Rattle.param_stage.proofs.params.Params.unset.Goals as goal

pub returns-clause-maps : goal.returns-clause-maps
returns-clause-maps c = search rules

pub returns-clause-added : goal.returns-clause-added
returns-clause-added c = search rules

pub returns-clause-gone : goal.returns-clause-gone
returns-clause-gone c = search rules

pub returns-clause-counts : goal.returns-clause-counts
returns-clause-counts c = unset_accounts c.args.self.now _ _ _ c.args.name.now (returns-clause-maps c) (returns-clause-added c) (returns-clause-gone c)
