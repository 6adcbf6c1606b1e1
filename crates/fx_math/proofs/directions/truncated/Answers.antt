use Rattle.std.proofs.Common.{rules}
use Rattle.fx_math.specs.Vec3.{truncated}
use Rattle.fx_math.proofs.Kept.{kept_quotient}
use Rattle.fx_math.proofs.Sizes.{same_vec}
use Rattle.fx_math.proofs.directions.truncated.Goals as goal

pub returns : goal.returns
unfolding truncated
returns c =
    same_vec _ _
    (kept_quotient c.args.v.x c.args.divisor (search rules) c.requires.positive c.requires.room)
    (kept_quotient c.args.v.y c.args.divisor (search rules) c.requires.positive c.requires.room)
    (kept_quotient c.args.v.z c.args.divisor (search rules) c.requires.positive c.requires.room)
