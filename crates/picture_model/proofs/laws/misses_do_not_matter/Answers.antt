use Rattle.picture_model.proofs.PictureLaws.{nearest-without}
use Rattle.picture_model.proofs.laws.misses_do_not_matter.Goals as goal

pub returns : goal.returns
returns c = nearest-without c.args.ray.now c.args.before.now c.args.missed.now c.args.after.now
