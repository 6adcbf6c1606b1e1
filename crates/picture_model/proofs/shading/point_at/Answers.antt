use Rattle.std.proofs.Common.{arith}
use Rattle.picture_model.proofs.Numbers.{read_count}
use Rattle.picture_model.specs.Shading.{point_at}
use Rattle.picture_model.proofs.shading.point_at.Goals as goal

pub returns-clause-value : goal.returns-clause-value
unfolding point_at
returns-clause-value c = let count = read_count c.args.depth (omega arith) in cc
