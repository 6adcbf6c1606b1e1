use Rattle.std.proofs.Common.{rules}
use Rattle.plain_journal.proofs.EndFacts.{flies, was_stopped}
use Rattle.plain_journal.proofs.record.Record.is_flight.Goals as goal

pub returns-then-is_flying : goal.returns-then-is_flying
returns-then-is_flying c = flies c.args.self.now.state c.args.ticket c.is_flying.result (search rules) (search rules)

pub returns-else-is_flying : goal.returns-else-is_flying
returns-else-is_flying c = was_stopped c.args.self.now.state c.args.ticket c.is_flying.result c.is_stopped.result (search rules) (search rules) (search rules)
