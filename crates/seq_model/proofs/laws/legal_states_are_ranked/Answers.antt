use Rattle.seq_model.proofs.laws.legal_states_are_ranked.Goals as goal
use Rattle.seq_model.proofs.Lower.{names_stand_lower, scenes_are_ranked}

pub returns-clause-names : goal.returns-clause-names
returns-clause-names c = names_stand_lower

pub returns-clause-scenes : goal.returns-clause-scenes
returns-clause-scenes c = scenes_are_ranked
