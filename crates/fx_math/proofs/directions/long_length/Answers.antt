use Rattle.std.proofs.Common.{ℤ, ◌*◌, ◌^◌, ◌∙◌, unsigned_abs, ap, rules}
use Rattle.std.proofs.lemmas.Int.{to_z-of_z}
use Rattle.fx_math.specs.Root.{isqrt}
use Rattle.fx_math.specs.UnitVector.{long_length}
use Rattle.fx_math.proofs.Lengths.{dot_self}
use mir.Syntax.{w128}
use Rattle.fx_math.proofs.directions.long_length.Goals as goal

pub overflow_cast-dot : goal.overflow_cast-dot
overflow_cast-dot c =
    let e = c.dot.ensures.value ∙ dot_self c.args.w in
    rw (to_z-of_z w128 c.dot.result (search rules), e) (tt, search rules)

pub returns-clause-value : goal.returns-clause-value
unfolding long_length
returns-clause-value c =
    c.isqrt.ensures.value ∙ ap (λ (z : ℤ). isqrt (2 ^ 32 * unsigned_abs z)) (to_z-of_z w128 c.dot.result (search rules) ∙ c.dot.ensures.value)
