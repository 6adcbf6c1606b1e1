use Rattle.seq_model.proofs.laws.deleters_run_once.Goals as goal
use Rattle.seq_model.proofs.Tellings.{closed_tells_all, told_at_most_once, told_is_gone}

pub returns-clause-at_most_once : goal.returns-clause-at_most_once
returns-clause-at_most_once c = told_at_most_once

pub returns-clause-when_gone : goal.returns-clause-when_gone
returns-clause-when_gone c = told_is_gone

pub returns-clause-at_the_close : goal.returns-clause-at_the_close
returns-clause-at_the_close c = closed_tells_all
