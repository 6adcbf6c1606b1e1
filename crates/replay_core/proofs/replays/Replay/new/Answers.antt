use Rattle.std.proofs.Common.{◌∙◌, ap, sym}
use Rattle.replay_core.proofs.ReplayFacts.{told_first}
use Rattle.seq_model.specs.Steps.{Past}
use Rattle.seq_model.specs.Told.{told}
use Rattle.replay_core.proofs.replays.Replay.new.Goals as goal

pub invariant_of-result : goal.invariant_of-result
invariant_of-result c = (c.in-Ok.ensures.told ∙ c.new.ensures ∙ sym told_first ∙ ap (λ (p : Past). told p.seen) (sym c.in-Ok.ensures.past), tt)
