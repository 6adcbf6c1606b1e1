use Rattle.trace_text.proofs.FewCallers.{has_few_callers}
use Rattle.anari_replay.proofs.replay.run_demo.Goals as goal

pub solo-replayed-requires : goal.solo-replayed-requires
solo-replayed-requires g c = has_few_callers _ _ c.in-Ok.ensures
