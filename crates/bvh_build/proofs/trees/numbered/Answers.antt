use Rattle.bvh_build.proofs.Growths.{numbered-step}
use Rattle.bvh_build.proofs.trees.numbered.Goals as goal

pub loop-index-preserved : goal.loop-index-preserved
loop-index-preserved c = numbered-step c.args.boxes.now c.loop-index.index _ _ _ c.loop-index-test.true c.loop-index.invariant c.in_ok-push.ensures.items
