use Rattle.std.proofs.Common.{◌^◌, ◌∙◌, arith, rules}
use Rattle.fx_math.specs.Vec3.{truncated}
use Rattle.fx_math.proofs.Kept.{kept, read_abs, read_quotient}
use Rattle.fx_math.proofs.Sizes.{abs_x, abs_y, abs_z, same_vec}
use Rattle.fx_math.proofs.directions.halved.Goals as goal

pub halved_number-requires-clause-room : goal.halved_number-requires-clause-room
halved_number-requires-clause-room c = rw (read_abs c.args.v.x (search rules)) (omega (arith, abs_x c.args.v, c.requires.room))

pub halved_number-requires-2-clause-room : goal.halved_number-requires-2-clause-room
halved_number-requires-2-clause-room c = rw (read_abs c.args.v.y (search rules)) (omega (arith, abs_y c.args.v, c.requires.room))

pub halved_number-requires-3-clause-room : goal.halved_number-requires-3-clause-room
halved_number-requires-3-clause-room c = rw (read_abs c.args.v.z (search rules)) (omega (arith, abs_z c.args.v, c.requires.room))

pub returns : goal.returns
unfolding truncated
returns c =
    same_vec _ _
    (kept c.halved_number.result _ (search rules) (c.halved_number.ensures ∙ read_quotient c.args.v.x (2 ^ c.args.count) (search rules)))
    (kept c.halved_number-2.result _ (search rules) (c.halved_number-2.ensures ∙ read_quotient c.args.v.y (2 ^ c.args.count) (search rules)))
    (kept c.halved_number-3.result _ (search rules) (c.halved_number-3.ensures ∙ read_quotient c.args.v.z (2 ^ c.args.count) (search rules)))
