use Rattle.std.proofs.Common.{◌<ℤ◌, arith}
use Rattle.std.proofs.lemmas.Int.{ints}
use Rattle.box_tests.proofs.Ways.{still_above}
use Rattle.box_tests.proofs.spans.still.Goals as goal

pub returns-then-slab-2 : goal.returns-then-slab-2
returns-then-slab-2 c =
    let slab = c.args.slab.now in
    let above : slab.high <ℤ slab.origin = grind (arith, ints) in
    still_above slab.low slab.high slab.origin above
