use Rattle.std.proofs.Common.{FitsSigned, arith, rules, refl}
use Rattle.std.proofs.lemmas.Int.{ints, to_z-of_z}
use Rattle.picture_model.proofs.Numbers.{read_wide}
use Rattle.picture_model.specs.Shading.{irradiance_at}
use mir.Syntax.{w32}
use Rattle.picture_model.proofs.shading.irradiance_at.Goals as goal

pub returns-in-Directional-clause-value : goal.returns-in-Directional-clause-value
unfolding irradiance_at
returns-in-Directional-clause-value c =
    let range : FitsSigned w32 c.in-Directional.irradiance = search rules in
    rw c.in-Directional.is (omega (arith, ints))

pub returns-in-Point-clause-value : goal.returns-in-Point-clause-value
unfolding irradiance_at
returns-in-Point-clause-value c =
    let range : FitsSigned w32 c.in-Point.intensity = search rules in
    rw (c.in-Point.is, read_wide c.faded.result c.faded.type_inv, c.faded.ensures.value, to_z-of_z w32 c.in-Point.intensity range, c.sub.ensures.value) refl
