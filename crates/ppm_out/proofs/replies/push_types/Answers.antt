use Rattle.ppm_out.proofs.Fronts.{front_twice}
use Rattle.ppm_out.proofs.Joined.{types_written_next}
use Rattle.ppm_out.proofs.replies.push_types.Goals as goal

pub loop-i-preserved : goal.loop-i-preserved
loop-i-preserved c = record {
  written = types_written_next c.args.types.now c.loop-i.i c.get.result.now _ _ _ c.get.ensures c.loop-i.invariant.written c.in_ok-push_type.ensures.ok;
  kept = front_twice _ _ _ c.loop-i.invariant.kept c.in_ok-push_type.ensures.front;
}
