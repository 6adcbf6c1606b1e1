use Rattle.picture_model.proofs.PictureLaws.{nearest-parts}
use Rattle.picture_model.proofs.laws.nearest_of_groups.Goals as goal

pub returns : goal.returns
returns c = nearest-parts c.args.ray.now c.args.first.now c.args.second.now
