use Rattle.std.proofs.Common.{ap, ◌∙◌}
use Rattle.fx_math.specs.Vec3.{dot}
use Rattle.picture_model.proofs.Numbers.{read_wide}
use Rattle.picture_model.specs.Depths.{distance_at}
use Rattle.picture_model.proofs.depths.distance_at.Goals as goal

pub returns : goal.returns
unfolding distance_at
returns c = read_wide c.dot.result c.dot.type_inv ∙ c.dot.ensures.value ∙ ap (λ way. dot way way) c.from_centre-way.ensures.value
