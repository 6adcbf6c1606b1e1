use Rattle.picture_model.proofs.PictureLaws.{finish_blend-spent}
use Rattle.picture_model.proofs.laws.hidden_hits_do_not_matter.Goals as goal

pub returns : goal.returns
returns c = finish_blend-spent c.args.lighting.now c.args.ray.now c.args.hidden.now c.args.blend.now
