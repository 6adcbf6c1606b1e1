use Rattle.std.proofs.Common.{FitsSigned, rules, refl}
use Rattle.std.proofs.lemmas.Int.{to_z-of_z}
use Rattle.picture_model.specs.Shading.{color_of, irradiance_at, towards}
use mir.Syntax.{w32}
use Rattle.shade_core.proofs.Shares.{natural}
use Rattle.shade_core.proofs.lights.lamp_at.Goals as goal

pub returns-in-Directional-clause-color : goal.returns-in-Directional-clause-color
unfolding color_of
returns-in-Directional-clause-color c = rw c.in-Directional.is refl

pub returns-in-Directional-clause-strength : goal.returns-in-Directional-clause-strength
unfolding irradiance_at
returns-in-Directional-clause-strength c =
    let range : FitsSigned w32 c.in-Directional.irradiance = search rules in
    let within = rw c.in-Directional.is at c.requires.light in
    let strength = rw (to_z-of_z w32 c.in-Directional.irradiance range) at c.unsigned_abs.ensures.value in
    rw (c.in-Directional.is, strength) (natural c.in-Directional.irradiance within.shining)

pub returns-in-Directional-clause-direction : goal.returns-in-Directional-clause-direction
unfolding towards
returns-in-Directional-clause-direction c = rw c.in-Directional.is (cc)

pub returns-in-Point-clause-color : goal.returns-in-Point-clause-color
unfolding color_of
returns-in-Point-clause-color c = rw c.in-Point.is refl

pub returns-in-Point-clause-strength : goal.returns-in-Point-clause-strength
unfolding irradiance_at
returns-in-Point-clause-strength c =
    let range : FitsSigned w32 c.in-Point.intensity = search rules in
    rw (c.in-Point.is, ← c.sub-way.ensures.value) (rw (to_z-of_z w32 c.in-Point.intensity range) at c.faded.ensures.value)

pub returns-in-Point-clause-direction : goal.returns-in-Point-clause-direction
unfolding towards
returns-in-Point-clause-direction c = rw c.in-Point.is (cc)
