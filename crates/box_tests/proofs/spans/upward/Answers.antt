use Rattle.std.proofs.Common.{◌≡◌, to_z, of_z, w64, arith}
use Rattle.std.proofs.lemmas.Int.{ints}
use Rattle.box_tests.proofs.Passages.{up_none, up_some}
use Rattle.box_tests.proofs.spans.upward.Goals as goal

pub returns-in_default : goal.returns-in_default
returns-in_default c = λ d is.
    let slab = c.args.slab.now in
    let behind = rw c.in_default.is at c.way_up.ensures in
    up_none slab (omega (arith, ints, behind)) d

pub returns : goal.returns
returns c = λ d is.
    let slab = c.args.slab.now in
    let origin : to_z w64 (of_z w64 slab.origin) ≡ slab.origin = omega (arith, ints) in
    let low : to_z w64 (of_z w64 slab.low) ≡ slab.low = omega (arith, ints) in
    let high : to_z w64 (of_z w64 slab.high) ≡ slab.high = omega (arith, ints) in
    let far = rw (c.in-Some.is, origin, high) at c.way_up.ensures in
    let near = rw (origin, low) at c.way_up-2.ensures in
    rw (c.scaled-2.ensures, c.scaled.ensures, c.unwrap_or-near.ensures)
    (up_some slab c.way_up-2.result c.in-Some.far c.args.inverse.now d near far is)
