use Rattle.replay_core.proofs.ReplayFacts.{hears_on}
use Rattle.replay_core.proofs.replays.Replay.finish_asked.Goals as goal

pub invariant_of-self-inside : goal.invariant_of-self-inside
invariant_of-self-inside c = (hears_on c.self.inside.device c.finish_asked.new.self c.finish_asked.ensures.told c.self.inside.heard, tt)
