use Rattle.std.proofs.Common.{lit≤, ◌^◌, arith, sym}
use Rattle.std.proofs.Math.Nat.{one-le-pow}
use Rattle.hit_tests.proofs.Divisions.{guess-below, guess-rest, rest-none, rest-one, upper_bits, upper_bits-below}
use Rattle.hit_tests.proofs.quotients.quotient.Goals as goal

pub overflow_cast-guess-2 : goal.overflow_cast-guess-2
overflow_cast-guess-2 c =
    let upper = upper_bits c.args.n c.ilog2.result c.saturating_sub-shift.result c.ilog2.ensures.next_power_gt c.saturating_sub-shift.ensures in
    record { fits = omega arith }

pub overflow_cast-guess-4 : goal.overflow_cast-guess-4
overflow_cast-guess-4 c =
    let upper = upper_bits c.args.n c.ilog2.result c.saturating_sub-shift.result c.ilog2.ensures.next_power_gt c.saturating_sub-shift.ensures in
    let some = one-le-pow c.saturating_sub-shift.result 2 (lit≤ tt) in
    let below = upper_bits-below c.args.n c.args.d (2 ^ c.saturating_sub-shift.result) some c.if-n-d.false upper in
    record { fits = omega arith }

pub overflow_add-guess : goal.overflow_add-guess
overflow_add-guess c =
    let upper = upper_bits c.args.n c.ilog2.result c.saturating_sub-shift.result c.ilog2.ensures.next_power_gt c.saturating_sub-shift.ensures in
    let some = one-le-pow c.saturating_sub-shift.result 2 (lit≤ tt) in
    let below = upper_bits-below c.args.n c.args.d (2 ^ c.saturating_sub-shift.result) some c.if-n-d.false upper in
    record { fits = omega arith }

pub overflow_mul-rest : goal.overflow_mul-rest
overflow_mul-rest c =
    let some = one-le-pow c.saturating_sub-shift.result 2 (lit≤ tt) in
    let guess = guess-below c.args.n c.args.d (2 ^ c.saturating_sub-shift.result) some in
    record { fits = omega arith }

pub overflow_sub-rest : goal.overflow_sub-rest
overflow_sub-rest c =
    let some = one-le-pow c.saturating_sub-shift.result 2 (lit≤ tt) in
    guess-below c.args.n c.args.d (2 ^ c.saturating_sub-shift.result) some

pub returns-then-rest-d : goal.returns-then-rest-d
returns-then-rest-d c =
    let some = one-le-pow c.saturating_sub-shift.result 2 (lit≤ tt) in
    let guess = guess-below c.args.n c.args.d (2 ^ c.saturating_sub-shift.result) some in
    let whole = guess-rest c.args.n c.args.d _ c.requires guess in
    let rest = rest-none _ c.args.d c.if-rest-d.true in
    omega arith

pub returns-then-rest-d-2 : goal.returns-then-rest-d-2
returns-then-rest-d-2 c =
    let some = one-le-pow c.saturating_sub-shift.result 2 (lit≤ tt) in
    let guess = guess-below c.args.n c.args.d (2 ^ c.saturating_sub-shift.result) some in
    let whole = guess-rest c.args.n c.args.d _ c.requires guess in
    let rest = rest-one _ c.args.d c.if-rest-d.false c.if-rest-d-2.true in
    omega arith

pub returns : goal.returns
returns c =
    let some = one-le-pow c.saturating_sub-shift.result 2 (lit≤ tt) in
    let guess = guess-below c.args.n c.args.d (2 ^ c.saturating_sub-shift.result) some in
    let whole = guess-rest c.args.n c.args.d _ c.requires guess in
    sym whole
