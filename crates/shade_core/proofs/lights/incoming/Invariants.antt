use Rattle.std.proofs.Common.{◌≡◌, ◌+◌, ◌*◌, ◌^◌, pos, ◌+ℤ◌, drop}
use Rattle.picture_model.specs.Shading.{incoming, shares}
use Rattle.shade_core.specs.Lights.{IsLightUpTo}
use Rattle.shade_core.proofs.lights.incoming.Given as goal

-- the light so far and that of the other lamps is all of it, and each lamp adds at most 2^48
abbrev pub invariant-loop-k : goal.invariant-loop-k
invariant-loop-k l = record {
  red : pos l.sum.red +ℤ shares 0 l.surface.normal l.surface.point (drop l.k l.lighting.lights) ≡ incoming 0 l.lighting l.surface.normal l.surface.point;
  green : pos l.sum.green +ℤ shares 1 l.surface.normal l.surface.point (drop l.k l.lighting.lights) ≡ incoming 1 l.lighting l.surface.normal l.surface.point;
  blue : pos l.sum.blue +ℤ shares 2 l.surface.normal l.surface.point (drop l.k l.lighting.lights) ≡ incoming 2 l.lighting l.surface.normal l.surface.point;
  size : IsLightUpTo (2 ^ 48 * (l.k + 1)) l.sum;
}
