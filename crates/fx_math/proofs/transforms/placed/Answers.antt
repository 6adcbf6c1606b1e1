use Rattle.std.proofs.Common.{ap, ◌∙◌, arith}
use Rattle.fx_math.specs.declared.vectors.Vec3.{Vec3}
use Rattle.fx_math.specs.Mat34.{linear, placed}
use Rattle.fx_math.specs.Vec3.{add}
use Rattle.fx_math.proofs.transforms.placed.Goals as goal

pub returns-clause-value : goal.returns-clause-value
unfolding placed
returns-clause-value c =
    c.add.ensures.value ∙ ap (λ (a : Vec3). add a c.column.result) c.transform_direction.ensures.value
    ∙ ap (add (linear c.args.m.now c.args.v)) c.column.ensures.value
