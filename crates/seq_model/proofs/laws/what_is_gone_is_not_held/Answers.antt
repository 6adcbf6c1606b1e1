use Rattle.seq_model.proofs.laws.what_is_gone_is_not_held.Goals as goal
use Rattle.seq_model.proofs.Held.{what_is_gone_is_not_held}

pub returns : goal.returns
returns c = what_is_gone_is_not_held
