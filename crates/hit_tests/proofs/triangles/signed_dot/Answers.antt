use Rattle.std.proofs.Common.{◌^◌, arith}
use Rattle.fx_math.specs.Vec3.{reach}
use Rattle.picture_model.proofs.Crossings.{dot_within}
use Rattle.picture_model.proofs.Numbers.{read_wide}
use Rattle.hit_tests.proofs.triangles.signed_dot.Goals as goal

pub turned-requires : goal.turned-requires
turned-requires c =
    rw (read_wide c.dot.result c.dot.type_inv)
    (dot_within c.dot.result (reach c.args.a) (reach c.args.b) (2 ^ 31) (2 ^ 61) c.dot.ensures.size c.requires.first c.requires.second (omega arith))
