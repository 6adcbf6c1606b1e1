use Rattle.object_steps.proofs.Rested.{ranked}
use Rattle.object_steps.proofs.carry_laws.what_follows_is_ranked.Goals as goal

pub returns : goal.returns
returns c = λ moved history e is. ranked history e moved is
