use Rattle.std.proofs.Common.{arith}
use Rattle.ray_kernel.proofs.Steps.{counted_next, ends_none}
use Rattle.ray_kernel.proofs.walks.run.Goals as goal

pub loop-branch-smaller : goal.loop-branch-smaller
loop-branch-smaller g c = rw c.in-Some.ensures.items c.step-best.ensures.less

pub loop-branch-preserved : goal.loop-branch-preserved
loop-branch-preserved g c =
    let before = rw c.in-Some.ensures.items at c.loop-branch.invariant.once in
    let step = c.step-best.ensures.once in
    record {
      finds = c.step-best.ensures.search;
      tests = omega arith;
      once = omega arith;
      counted = counted_next c.loop-branch.best c.step-best.result _ _ _ c.loop-branch.invariant.tests c.step-best.ensures.tests c.loop-branch.invariant.counted c.step-best.ensures.counted;
    }

pub returns-clause-answer : goal.returns-clause-answer
returns-clause-answer g c = ends_none c.args.search.now c.loop-branch.waiting.items c.loop-branch.best c.in_default.ensures.variant.1 c.loop-branch.invariant.finds
