use Rattle.std.proofs.Common.{◌+◌, ◌^◌, arith}
use Rattle.fx_math.specs.Vec3.{reach}
use Rattle.picture_model.proofs.Crossings.{dot_within, kept}
use Rattle.picture_model.proofs.Numbers.{product_within}
use Rattle.picture_model.proofs.depths.triple.Goals as goal

pub cross-requires : goal.cross-requires
cross-requires c = product_within (reach c.args.b) (reach c.args.c) (2 ^ 30 + 2 ^ 28) (2 ^ 30 + 2 ^ 28) _ c.requires.second c.requires.third (omega arith)

pub dot-requires-clause-second : goal.dot-requires-clause-second
dot-requires-clause-second c =
    let p = product_within (reach c.args.b) (reach c.args.c) (2 ^ 30 + 2 ^ 28) (2 ^ 30 + 2 ^ 28) (2 ^ 61) c.requires.second c.requires.third (omega arith) in
    omega arith

pub returns-clause-size : goal.returns-clause-size
returns-clause-size c =
    let p = product_within (reach c.args.b) (reach c.args.c) (2 ^ 30 + 2 ^ 28) (2 ^ 30 + 2 ^ 28) (2 ^ 61) c.requires.second c.requires.third (omega arith) in
    let size = dot_within c.dot.result (reach c.args.a) (reach c.cross.result) (2 ^ 31) (2 ^ 62) c.dot.ensures.size (omega arith) (omega arith) (omega arith) in
    rw (kept c.dot.result size) size
