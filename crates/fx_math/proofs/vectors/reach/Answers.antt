use Rattle.std.proofs.Common.{◌≡◌, ◌∙◌, unsigned_abs, arith, rules}
use Rattle.fx_math.specs.Vec3.{reach}
use Rattle.fx_math.proofs.Kept.{read_abs}
use Rattle.fx_math.proofs.vectors.reach.Goals as goal

pub returns : goal.returns
unfolding reach
returns c =
    let x : c.unsigned_abs.result ≡ unsigned_abs c.args.v.x = c.unsigned_abs.ensures.value ∙ read_abs c.args.v.x (search rules) in
    let y : c.unsigned_abs-2.result ≡ unsigned_abs c.args.v.y = c.unsigned_abs-2.ensures.value ∙ read_abs c.args.v.y (search rules) in
    let z : c.unsigned_abs-3.result ≡ unsigned_abs c.args.v.z = c.unsigned_abs-3.ensures.value ∙ read_abs c.args.v.z (search rules) in
    omega arith
