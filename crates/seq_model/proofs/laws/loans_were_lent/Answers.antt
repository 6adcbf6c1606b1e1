use Rattle.seq_model.proofs.laws.loans_were_lent.Goals as goal
use Rattle.seq_model.proofs.Lent.{loans_were_lent}

pub returns : goal.returns
returns c = loans_were_lent
