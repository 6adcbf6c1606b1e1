use Rattle.replay_core.proofs.ReplayFacts.{hears_on}
use Rattle.replay_core.proofs.replays.Replay.end_loan.Goals as goal

pub invariant_of-self-inside : goal.invariant_of-self-inside
invariant_of-self-inside c = (hears_on c.self.inside.device c.step.new.self c.step.ensures.told c.self.inside.heard, tt)
