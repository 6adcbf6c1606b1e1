use Rattle.replay_core.proofs.WriteFacts.{written_fits}
use Rattle.replay_core.proofs.writes.written_value.Goals as goal

pub returns-in-Numbers-clause-fits : goal.returns-in-Numbers-clause-fits
returns-in-Numbers-clause-fits c = written_fits c.value_of_numbers.result c.args.elem _ c.value_of_numbers.ensures
