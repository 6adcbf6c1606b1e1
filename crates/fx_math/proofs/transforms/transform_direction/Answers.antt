use Rattle.std.proofs.Common.{◌^◌, ◌≤◌, rules, subst}
use Rattle.fx_math.specs.declared.vectors.Vec3.{Vec3}
use Rattle.fx_math.specs.Mat34.{linear}
use Rattle.fx_math.specs.Vec3.{reach, scaled_down}
use Rattle.fx_math.proofs.PlacedVectors.{floor_of_row, reach-linear}
use Rattle.fx_math.proofs.Kept.{kept}
use Rattle.fx_math.proofs.Sizes.{same_vec}
use Rattle.fx_math.proofs.transforms.transform_direction.Goals as goal

pub returns-clause-value : goal.returns-clause-value
unfolding linear scaled_down
returns-clause-value c =
    same_vec _ _
    (kept c.units.result _ (search rules) (floor_of_row c.args.m.now 0 c.args.v c.row.result c.dot.result c.units.result (search rules) c.row.ensures.value c.dot.ensures.value c.units.ensures))
    (kept c.units-2.result _ (search rules) (floor_of_row c.args.m.now 1 c.args.v c.row-2.result c.dot-2.result c.units-2.result (search rules) c.row-2.ensures.value c.dot-2.ensures.value c.units-2.ensures))
    (kept c.units-3.result _ (search rules) (floor_of_row c.args.m.now 2 c.args.v c.row-3.result c.dot-3.result c.units-3.result (search rules) c.row-3.ensures.value c.dot-3.ensures.value c.units-3.ensures))

pub returns-clause-size : goal.returns-clause-size
returns-clause-size c =
    rw (returns-clause-value c)
    (reach-linear c.args.m.now c.args.v
    (subst (λ (r : Vec3). reach r ≤ 2 ^ 31) c.row.ensures.value c.row.ensures.size)
    (subst (λ (r : Vec3). reach r ≤ 2 ^ 31) c.row-2.ensures.value c.row-2.ensures.size)
    (subst (λ (r : Vec3). reach r ≤ 2 ^ 31) c.row-3.ensures.value c.row-3.ensures.size)
    c.requires)
