use Rattle.std.proofs.Common.{ℕ, pos, ◌^◌, ◌∙◌, ap, arith, sym}
use Rattle.fx_math.specs.Vec3.{times, truncated}
use Rattle.fx_math.specs.declared.vectors.Vec3.{Vec3}
use Rattle.fx_math.specs.UnitVector.{shortened, normalized, long_length}
use Rattle.fx_math.proofs.Lengths.{shortened_is, short_of, unit-zero, unit_of, reach-unit, reach_below_length}
use Rattle.fx_math.proofs.directions.unit.Goals as goal

pub returns-then-greatest-eq0-clause-value : goal.returns-then-greatest-eq0-clause-value
returns-then-greatest-eq0-clause-value c = sym (unit-zero c.args.v (omega arith))

pub times-requires : goal.times-requires
times-requires c =
    let e = short_of c.args.v c.halved-short.result _ _ c.reach-greatest.ensures c.halvings.ensures.value c.halved-short.ensures in
    let short = shortened_is c.args.v (omega arith) in
    rw e (omega (arith, short.below))

pub long_length-requires : goal.long_length-requires
long_length-requires c =
    let e = short_of c.args.v c.halved-short.result _ _ c.reach-greatest.ensures c.halvings.ensures.value c.halved-short.ensures in
    let short = shortened_is c.args.v (omega arith) in
    rw e short.below

pub truncated-requires-clause-positive : goal.truncated-requires-clause-positive
truncated-requires-clause-positive c =
    let e = short_of c.args.v c.halved-short.result _ _ c.reach-greatest.ensures c.halvings.ensures.value c.halved-short.ensures in
    let short = shortened_is c.args.v (omega arith) in
    let length = c.long_length.ensures.value ∙ ap long_length e in
    omega (arith, length, reach_below_length (shortened c.args.v), short.not_zero)

pub returns-clause-value : goal.returns-clause-value
unfolding normalized
returns-clause-value c =
    let e = short_of c.args.v c.halved-short.result _ _ c.reach-greatest.ensures c.halvings.ensures.value c.halved-short.ensures in
    c.truncated.ensures ∙ ap (λ (w : Vec3). truncated w c.long_length.result) c.times.ensures.value
    ∙ ap (λ (n : ℕ). truncated (times c.halved-short.result (pos (2 ^ 32))) n) c.long_length.ensures.value
    ∙ ap normalized e ∙ sym (unit_of c.args.v (omega arith))

pub returns-clause-size : goal.returns-clause-size
returns-clause-size c = rw (returns-clause-value c) (reach-unit c.args.v)
