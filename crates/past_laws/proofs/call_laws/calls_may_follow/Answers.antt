use Rattle.past_laws.proofs.Follows.{one_call_more}
use Rattle.past_laws.proofs.call_laws.calls_may_follow.Goals as goal

pub returns : goal.returns
returns c = one_call_more
