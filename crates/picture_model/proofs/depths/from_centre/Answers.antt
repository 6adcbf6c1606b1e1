use Rattle.std.proofs.Common.{◌+◌, ◌^◌, unsigned_abs, ap, arith}
use Rattle.fx_math.specs.Vec3.{reach}
use Rattle.picture_model.proofs.Numbers.{product_within, read_count}
use Rattle.picture_model.specs.Depths.{from_centre}
use Rattle.picture_model.proofs.depths.from_centre.Goals as goal

pub returns-clause-value : goal.returns-clause-value
unfolding from_centre
returns-clause-value c = let count = read_count c.args.s (omega arith) in cc

pub returns-clause-size : goal.returns-clause-size
returns-clause-size c =
    let count = ap unsigned_abs (read_count c.args.s (omega arith)) in
    let along = product_within (reach c.args.ray.now.d) c.args.s (2 ^ 25) (2 ^ 32 + 1) (2 ^ 57 + 2 ^ 25) c.requires.ray.direction c.requires.near (omega arith) in
    let times_size = rw count at c.times-2.ensures.size in
    omega arith
