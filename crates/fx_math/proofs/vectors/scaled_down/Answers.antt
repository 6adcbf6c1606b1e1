use Rattle.std.proofs.Common.{rules}
use Rattle.fx_math.specs.Vec3.{scaled_down}
use Rattle.fx_math.proofs.Kept.{shifted}
use Rattle.fx_math.proofs.Sizes.{same_vec, reach-scaled_down}
use Rattle.fx_math.proofs.vectors.scaled_down.Goals as goal

pub returns-clause-value : goal.returns-clause-value
unfolding scaled_down
returns-clause-value c = same_vec _ _ (shifted c.args.v.x (search rules)) (shifted c.args.v.y (search rules)) (shifted c.args.v.z (search rules))

pub returns-clause-size : goal.returns-clause-size
returns-clause-size c = rw (returns-clause-value c) (reach-scaled_down c.args.v)
