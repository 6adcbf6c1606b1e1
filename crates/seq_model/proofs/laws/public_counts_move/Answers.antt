use Rattle.seq_model.proofs.laws.public_counts_move.Goals as goal
use Rattle.seq_model.proofs.Publics.{public_moves}

pub returns : goal.returns
returns c = public_moves
