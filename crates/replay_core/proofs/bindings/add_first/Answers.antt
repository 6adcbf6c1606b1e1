use Rattle.std.proofs.Common.{None}
use Rattle.replay_core.proofs.FoundFacts.{adds}
use Rattle.replay_core.proofs.bindings.add_first.Goals as goal

pub returns-in-Ok-clause-added : goal.returns-in-Ok-clause-added
returns-in-Ok-clause-added c = adds c.args.by_label.now.entries c.insert.new.self.entries c.args.label c.args.list None c.in-Ok.ensures.updates.0 c.requires
