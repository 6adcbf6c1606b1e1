use Rattle.std.proofs.Common.{length-drop, arith}
use Rattle.replay_io.proofs.Runs.{Appends-more}
use Rattle.replay_io.proofs.streams.write_all.Goals as goal

pub loop-done-preserved : goal.loop-done-preserved
loop-done-preserved g c = record {
  grown = Appends-more _ _ _ c.args.bytes.now c.loop-done.done c.in_ok-done.field-0 c.loop-done.invariant.grown c.in_ok-done.ensures.bytes;
  within = grind (arith, length-drop, c.in_ok-done.ensures.bound, c.loop-done-test.true);
  later = omega (arith, c.loop-done.invariant.later, c.write.ensures.later);
}
