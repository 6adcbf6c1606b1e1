use Rattle.std.proofs.Common.{◌≡◌, ◌+◌, ◌*◌, ◌^◌, ◌≤◌, pos, ◌+ℤ◌, ◌≤ℤ◌, unsigned_abs, drop}
use Rattle.picture_model.specs.Shading.{incoming, shares}
use Rattle.picture_model.proofs.shading.incoming.Given as goal

-- the light so far and that of the other lamps is all of it, and each lamp adds at most 2^48
abbrev pub invariant-loop-k : goal.invariant-loop-k
invariant-loop-k l = record {
  value : l.sum +ℤ shares l.i l.normal l.point (drop l.k l.lighting.lights) ≡ incoming l.i l.lighting l.normal l.point;
  sign : pos 0 ≤ℤ l.sum;
  size : unsigned_abs l.sum ≤ 2 ^ 48 * (l.k + 1);
}
