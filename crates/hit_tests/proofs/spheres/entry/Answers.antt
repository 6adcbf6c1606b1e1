use Rattle.std.proofs.Common.{arith, sym, ◌∙◌}
use Rattle.std.proofs.Math.Nat.{mul-le-mul}
use Rattle.hit_tests.proofs.Entries.{apart, at_first, at_next, at_the_end, between_points, never_near, root_below, rooted}
use Rattle.hit_tests.proofs.spheres.entry.Goals as goal

pub returns-then-nearest-away : goal.returns-then-nearest-away
returns-then-nearest-away c = apart c.args.a.now (omega arith)

pub long_root-root-requires-clause-small : goal.long_root-root-requires-clause-small
long_root-root-requires-clause-small c = λ slow. let small = c.requires.slow slow in let squares = mul-le-mul small small in omega arith

pub overflow_sub-a : goal.overflow_sub-a
overflow_sub-a c =
    let r = rooted c.args.a.now c.long_root-root.result (omega arith) c.long_root-root.ensures.low c.long_root-root.ensures.high in
    let below = root_below c.args.a.now _ c.long_root-root.result c.requires r in
    omega arith

pub overflow_sub-a-2 : goal.overflow_sub-a-2
overflow_sub-a-2 c =
    let r = rooted c.args.a.now c.long_root-root.result (omega arith) c.long_root-root.ensures.low c.long_root-root.ensures.high in
    let below = root_below c.args.a.now _ c.long_root-root.result c.requires r in
    omega arith

pub returns-then-first : goal.returns-then-first
returns-then-first c =
    let r = rooted c.args.a.now c.long_root-root.result (omega arith) c.long_root-root.ensures.low c.long_root-root.ensures.high in
    let q = c.quotient-first.ensures in
    never_near c.args.a.now _ c.long_root-root.result c.requires r (omega arith)

pub returns-then-is_inside : goal.returns-then-is_inside
returns-then-is_inside c =
    let r = rooted c.args.a.now c.long_root-root.result (omega arith) c.long_root-root.ensures.low c.long_root-root.ensures.high in
    let q = c.quotient-first.ensures in
    rw q (at_first c.args.a.now _ c.long_root-root.result c.requires r (omega arith) (rw q at (sym c.is_inside.ensures ∙ c.if-is_inside.true)))

pub returns-then-first-eq-FARTHEST : goal.returns-then-first-eq-FARTHEST
returns-then-first-eq-FARTHEST c =
    let r = rooted c.args.a.now c.long_root-root.result (omega arith) c.long_root-root.ensures.low c.long_root-root.ensures.high in
    let q = c.quotient-first.ensures in
    at_the_end c.args.a.now _ c.long_root-root.result c.requires r (omega arith) (rw q at (sym c.is_inside.ensures ∙ c.if-is_inside.false))

pub returns-then-is_inside-2 : goal.returns-then-is_inside-2
returns-then-is_inside-2 c =
    let r = rooted c.args.a.now c.long_root-root.result (omega arith) c.long_root-root.ensures.low c.long_root-root.ensures.high in
    let q = c.quotient-first.ensures in
    rw q (at_next c.args.a.now _ c.long_root-root.result c.requires r (omega arith) (rw q at (sym c.is_inside.ensures ∙ c.if-is_inside.false)) (rw q at (sym c.is_inside-2.ensures ∙ c.if-is_inside-2.true)))

pub returns-else-is_inside-2 : goal.returns-else-is_inside-2
returns-else-is_inside-2 c =
    let r = rooted c.args.a.now c.long_root-root.result (omega arith) c.long_root-root.ensures.low c.long_root-root.ensures.high in
    let q = c.quotient-first.ensures in
    between_points c.args.a.now _ c.long_root-root.result c.requires r (rw q at (sym c.is_inside.ensures ∙ c.if-is_inside.false)) (rw q at (sym c.is_inside-2.ensures ∙ c.if-is_inside-2.false))
