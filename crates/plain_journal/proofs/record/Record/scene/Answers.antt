use Rattle.std.proofs.Common.{rules}
use Rattle.plain_journal.proofs.PreparedFacts.{made_within}
use Rattle.plain_journal.proofs.record.Record.scene.Goals as goal

pub returns-clause-within : goal.returns-clause-within
returns-clause-within c = made_within c.args.self.now c.args.h c.scene.result (search rules) (search rules) c.requires.granted (search rules) (search rules)
