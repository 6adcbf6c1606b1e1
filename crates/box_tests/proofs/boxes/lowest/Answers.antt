use Rattle.std.proofs.Common.{arith}
use Rattle.std.proofs.lemmas.Int.{ints}
use Rattle.box_tests.proofs.boxes.lowest.Goals as goal

pub returns-clause-greatest : goal.returns-clause-greatest
returns-clause-greatest c = λ v p q.
    let x = c.lower.ensures.greatest v.x (omega (arith, ints, p.x)) (omega (arith, ints, q.x)) in
    let y = c.lower-2.ensures.greatest v.y (omega (arith, ints, p.y)) (omega (arith, ints, q.y)) in
    let z = c.lower-3.ensures.greatest v.z (omega (arith, ints, p.z)) (omega (arith, ints, q.z)) in
    record { x = omega (arith, ints, x); y = omega (arith, ints, y); z = omega (arith, ints, z) }
