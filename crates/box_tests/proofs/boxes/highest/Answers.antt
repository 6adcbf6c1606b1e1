use Rattle.std.proofs.Common.{arith}
use Rattle.std.proofs.lemmas.Int.{ints}
use Rattle.box_tests.proofs.boxes.highest.Goals as goal

pub returns-clause-least : goal.returns-clause-least
returns-clause-least c = λ v p q.
    let x = c.higher.ensures.least v.x (omega (arith, ints, p.x)) (omega (arith, ints, q.x)) in
    let y = c.higher-2.ensures.least v.y (omega (arith, ints, p.y)) (omega (arith, ints, q.y)) in
    let z = c.higher-3.ensures.least v.z (omega (arith, ints, p.z)) (omega (arith, ints, q.z)) in
    record { x = omega (arith, ints, x); y = omega (arith, ints, y); z = omega (arith, ints, z) }
