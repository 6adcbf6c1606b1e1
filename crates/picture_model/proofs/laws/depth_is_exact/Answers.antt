use Rattle.picture_model.proofs.DepthLaws.{depth-is}
use Rattle.picture_model.proofs.laws.depth_is_exact.Goals as goal

pub returns : goal.returns
returns c = depth-is c.args.ray.now c.args.shape.now
