use Rattle.std.proofs.Common.{arith}
use Rattle.std.proofs.lemmas.Int.{ints}
use Rattle.fx_math.specs.Vec3.{add}
use Rattle.fx_math.proofs.Sizes.{same_vec, reach-add, abs_x, abs_y, abs_z}
use Rattle.fx_math.proofs.vectors.add.Goals as goal

pub returns-clause-value : goal.returns-clause-value
unfolding add
returns-clause-value c = same_vec _ _
    (omega (arith, ints, abs_x c.args.a, abs_x c.args.b))
    (omega (arith, ints, abs_y c.args.a, abs_y c.args.b))
    (omega (arith, ints, abs_z c.args.a, abs_z c.args.b))

pub returns-clause-size : goal.returns-clause-size
returns-clause-size c = rw (returns-clause-value c) (reach-add c.args.a c.args.b)

pub overflow_add-result : goal.overflow_add-result
overflow_add-result c = omega (arith, ints, abs_x c.args.a, abs_x c.args.b)

pub overflow_add-result-2 : goal.overflow_add-result-2
overflow_add-result-2 c = omega (arith, ints, abs_y c.args.a, abs_y c.args.b)

pub overflow_add-result-3 : goal.overflow_add-result-3
overflow_add-result-3 c = omega (arith, ints, abs_z c.args.a, abs_z c.args.b)
