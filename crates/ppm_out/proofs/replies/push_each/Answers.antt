use Rattle.ppm_out.proofs.Fronts.{front_twice}
use Rattle.ppm_out.proofs.Joined.{written_next}
use Rattle.ppm_out.proofs.replies.push_each.Goals as goal

pub loop-i-preserved : goal.loop-i-preserved
loop-i-preserved c = record {
  written = written_next c.args.names.now c.loop-i.i c.get.result.now c.as_str.result.now _ _ _ c.get.ensures c.as_str.ensures.value c.loop-i.invariant.written c.in_ok-push_word.ensures.ok;
  kept = front_twice _ _ _ c.loop-i.invariant.kept c.in_ok-push_word.ensures.front;
}
