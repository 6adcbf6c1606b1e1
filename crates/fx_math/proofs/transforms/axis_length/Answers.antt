use Rattle.std.proofs.Common.{ℤ, pos, ◌∙◌, w64, unsigned_abs, ap, arith, rules}
use Rattle.std.proofs.lemmas.Int.{to_z-of_z, to_z_pos}
use Rattle.fx_math.specs.declared.vectors.Vec3.{Vec3}
use Rattle.fx_math.specs.Mat34.{axis_length}
use Rattle.fx_math.specs.Root.{isqrt}
use Rattle.fx_math.specs.Vec3.{dot}
use Rattle.fx_math.proofs.Lengths.{dot_self}
use Rattle.fx_math.proofs.PlacedVectors.{axis_small}
use Rattle.fx_math.proofs.transforms.axis_length.Goals as goal
use mir.Syntax.{w128}

pub overflow_cast-dot : goal.overflow_cast-dot
overflow_cast-dot c =
    let e = c.dot.ensures.value ∙ dot_self c.column-axis.result in
    rw (to_z-of_z w128 c.dot.result (search rules), e) (tt, search rules)

pub returns-clause-value : goal.returns-clause-value
unfolding axis_length
returns-clause-value c =
    let small = axis_small c.column-axis.result c.dot.result c.isqrt.result (search rules) c.column-axis.ensures.size c.dot.ensures.value c.isqrt.ensures.greatest in
    let square = to_z-of_z w128 c.dot.result (search rules) ∙ c.dot.ensures.value ∙ ap (λ (a : Vec3). dot a a) c.column-axis.ensures.value in
    to_z_pos w64 c.isqrt.result (omega arith) ∙ ap pos (c.isqrt.ensures.value ∙ ap (λ (z : ℤ). isqrt (unsigned_abs z)) square)

pub returns-clause-size : goal.returns-clause-size
returns-clause-size c =
    let small = axis_small c.column-axis.result c.dot.result c.isqrt.result (search rules) c.column-axis.ensures.size c.dot.ensures.value c.isqrt.ensures.greatest in
    rw (to_z_pos w64 c.isqrt.result (omega arith)) small
