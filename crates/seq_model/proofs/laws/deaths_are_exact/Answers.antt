use Rattle.seq_model.proofs.laws.deaths_are_exact.Goals as goal
use Rattle.seq_model.proofs.Deaths.{what_holds_itself_lives, what_is_named_lives}

pub returns-clause-closed : goal.returns-clause-closed
returns-clause-closed c = what_is_named_lives

pub returns-clause-held_up : goal.returns-clause-held_up
returns-clause-held_up c = what_holds_itself_lives
