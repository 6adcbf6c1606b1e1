use Rattle.std.proofs.Common.{[]}
use Rattle.replay_core.proofs.replays.Replay.finish.Goals as goal

pub returns-clause-told : goal.returns-clause-told
returns-clause-told c = c.finish-history.ensures.told [] c.self.inside.heard
