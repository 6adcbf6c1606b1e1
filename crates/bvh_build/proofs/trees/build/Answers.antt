use Rattle.std.proofs.Common.{arith}
use Rattle.bvh_build.proofs.Growths.{length-numbered}
use Rattle.bvh_build.proofs.trees.build.Goals as goal

pub grow-requires-clause-few : goal.grow-requires-clause-few
grow-requires-clause-few c =
    let l = length-numbered 0 c.args.boxes.now in
    rw (c.as_slice.ensures.value, c.in_ok-items.ensures) (omega arith)
