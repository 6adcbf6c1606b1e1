use Rattle.std.proofs.Common.{◌≡◌, true}
use Rattle.past_laws.proofs.Stays.{walk_stays}
use Rattle.past_laws.proofs.call_laws.walks_stay.Goals as goal
use Rattle.seq_model.specs.Life.{has}

pub returns : goal.returns
returns c = λ reach old new n start still is. walk_stays (λ k. has k reach ≡ true) old new still n start is
