use Rattle.std.proofs.Common.{ℕ, ◌<◌, get_or}
use Rattle.fx_math.specs.declared.scene.LightRow.{LightRow}
use Rattle.picture_model.specs.Limits.{IsLightWithin}
use Rattle.picture_model.proofs.limits.are_lights_within.Given as goal

abbrev pub invariant-loop-k : goal.invariant-loop-k
invariant-loop-k l = (j : ℕ) (d : LightRow) → j < l.k → IsLightWithin (get_or l.lighting.lights j d)
