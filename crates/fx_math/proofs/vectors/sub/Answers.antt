use Rattle.std.proofs.Common.{arith}
use Rattle.std.proofs.lemmas.Int.{ints}
use Rattle.fx_math.specs.Vec3.{sub}
use Rattle.fx_math.proofs.Sizes.{same_vec, reach-sub, abs_x, abs_y, abs_z}
use Rattle.fx_math.proofs.vectors.sub.Goals as goal

pub returns-clause-value : goal.returns-clause-value
unfolding sub
returns-clause-value c = same_vec _ _
    (omega (arith, ints, abs_x c.args.a, abs_x c.args.b))
    (omega (arith, ints, abs_y c.args.a, abs_y c.args.b))
    (omega (arith, ints, abs_z c.args.a, abs_z c.args.b))

pub returns-clause-size : goal.returns-clause-size
returns-clause-size c = rw (returns-clause-value c) (reach-sub c.args.a c.args.b)

pub overflow_sub-result : goal.overflow_sub-result
overflow_sub-result c = omega (arith, ints, abs_x c.args.a, abs_x c.args.b)

pub overflow_sub-result-2 : goal.overflow_sub-result-2
overflow_sub-result-2 c = omega (arith, ints, abs_y c.args.a, abs_y c.args.b)

pub overflow_sub-result-3 : goal.overflow_sub-result-3
overflow_sub-result-3 c = omega (arith, ints, abs_z c.args.a, abs_z c.args.b)
