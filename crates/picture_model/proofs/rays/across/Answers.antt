use Rattle.std.proofs.Common.{◌*◌, unsigned_abs, ap, arith}
use Rattle.std.proofs.lemmas.Int.{to_z-of_z}
use Rattle.fx_math.specs.Vec3.{reach}
use Rattle.picture_model.proofs.Numbers.{product_within}
use Rattle.picture_model.specs.Rays.{across}
use Rattle.picture_model.proofs.rays.across.Goals as goal

pub returns-clause-value : goal.returns-clause-value
unfolding across
returns-clause-value c =
    let sx = to_z-of_z _ c.args.sx c.ranges.sx in
    let sy = to_z-of_z _ c.args.sy c.ranges.sy in
    cc

pub returns-clause-size : goal.returns-clause-size
returns-clause-size c =
    let sx = ap unsigned_abs (to_z-of_z _ c.args.sx c.ranges.sx) in
    let sy = ap unsigned_abs (to_z-of_z _ c.args.sy c.ranges.sy) in
    let right = rw sx at c.times.ensures.size in
    let up = rw sy at c.times-2.ensures.size in
    let right_size = product_within (reach c.args.axes.now.right) (unsigned_abs c.args.sx) 65536 (unsigned_abs c.args.sx) (65536 * unsigned_abs c.args.sx) c.requires.axes.right (omega arith) (omega arith) in
    let up_size = product_within (reach c.args.axes.now.up) (unsigned_abs c.args.sy) 65536 (unsigned_abs c.args.sy) (65536 * unsigned_abs c.args.sy) c.requires.axes.up (omega arith) (omega arith) in
    omega arith
