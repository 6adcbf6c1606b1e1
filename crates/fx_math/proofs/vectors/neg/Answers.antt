use Rattle.std.proofs.Common.{arith}
use Rattle.std.proofs.lemmas.Int.{ints}
use Rattle.fx_math.specs.Vec3.{neg}
use Rattle.fx_math.proofs.Sizes.{same_vec, reach-neg, abs_x, abs_y, abs_z}
use Rattle.fx_math.proofs.vectors.neg.Goals as goal

pub returns-clause-value : goal.returns-clause-value
unfolding neg
returns-clause-value c = same_vec _ _
    (omega (arith, ints, abs_x c.args.v))
    (omega (arith, ints, abs_y c.args.v))
    (omega (arith, ints, abs_z c.args.v))

pub returns-clause-size : goal.returns-clause-size
returns-clause-size c = rw (returns-clause-value c) (reach-neg c.args.v)

pub overflow_sub-result : goal.overflow_sub-result
overflow_sub-result c = omega (arith, ints, abs_x c.args.v)

pub overflow_sub-result-2 : goal.overflow_sub-result-2
overflow_sub-result-2 c = omega (arith, ints, abs_y c.args.v)

pub overflow_sub-result-3 : goal.overflow_sub-result-3
overflow_sub-result-3 c = omega (arith, ints, abs_z c.args.v)
