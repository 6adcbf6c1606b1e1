use Rattle.trace_text.proofs.FewCallers.{has_few_callers}
use Rattle.anari_replay.proofs.replay.replay.Goals as goal

pub solo-requires : goal.solo-requires
solo-requires g c = has_few_callers _ _ c.in_ok-trace.ensures
