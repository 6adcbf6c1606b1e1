use Rattle.std.proofs.Common.{◌*◌, ◌≡◌}
use Rattle.seq_model.specs.Life.{grown, is_root}
use Rattle.seq_model.specs.Steps.{is_reached}
use Rattle.plain_objects.specs.Counts.{count_at}
use Rattle.plain_objects.specs.Sweeping.{marked}
use Rattle.plain_objects.proofs.sweeps.mark_live.Given as goal

-- each time two rounds are done
abbrev pub invariant-loop-round : goal.invariant-loop-round
invariant-loop-round l = marked l.marks l.stage.objects ≡ grown (is_root (count_at l.held) (is_reached l.reached l.stage)) l.stage.objects (2 * l._round)
