use Rattle.seq_model.specs.Steps.{after}
use Rattle.object_tests.proofs.DeskFacts.{renders_none}
use Rattle.object_tests.proofs.desk.apply.Goals as goal

pub enter-requires-clause-none : goal.enter-requires-clause-none
enter-requires-clause-none c =
    renders_none (after c.reserve.new.self.entries) 1 c.args.call c.in-Ok.call c.in-Ok.reply c.in-Ok.ensures.entered c.requires.object_call
