use Rattle.picture_model.specs.Shading.{towards}
use Rattle.picture_model.proofs.shading.towards.Goals as goal

pub returns-in-Directional-clause-value : goal.returns-in-Directional-clause-value
unfolding towards
returns-in-Directional-clause-value c = rw c.in-Directional.is (cc)

pub returns-in-Point-clause-value : goal.returns-in-Point-clause-value
unfolding towards
returns-in-Point-clause-value c = rw c.in-Point.is (cc)
