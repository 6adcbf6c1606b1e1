use Rattle.std.proofs.Common.{pos, ◌+ℤ◌, arith, ap}
use Rattle.std.proofs.lemmas.Option.{get_or_from_slice_get, slice_get_within}
use Rattle.picture_model.specs.Shading.{incoming, shares}
use Rattle.shade_core.proofs.Shares.{lamp-step}
use Rattle.shade_core.proofs.lights.incoming.Goals as goal

pub loop-k-init : goal.loop-k-init
unfolding incoming
loop-k-init c = record {
  red = ap (λ z. z +ℤ shares 0 c.args.surface.now.normal c.args.surface.now.point c.args.lighting.now.lights) c.ambient-sum.ensures.value.red;
  green = ap (λ z. z +ℤ shares 1 c.args.surface.now.normal c.args.surface.now.point c.args.lighting.now.lights) c.ambient-sum.ensures.value.green;
  blue = ap (λ z. z +ℤ shares 2 c.args.surface.now.normal c.args.surface.now.point c.args.lighting.now.lights) c.ambient-sum.ensures.value.blue;
  size = record { red = omega (arith, c.ambient-sum.ensures.size.red); green = omega (arith, c.ambient-sum.ensures.size.green); blue = omega (arith, c.ambient-sum.ensures.size.blue) };
}

pub with_lamp-sum-requires-clause-light : goal.with_lamp-sum-requires-clause-light
with_lamp-sum-requires-clause-light c =
    let light = c.get.result.now in
    rw (get_or_from_slice_get c.args.lighting.now.lights c.loop-k.k light light c.get.ensures) at
    (c.requires.lighting.lights c.loop-k.k light (slice_get_within c.args.lighting.now.lights c.loop-k.k light c.get.ensures))

pub loop-k-preserved : goal.loop-k-preserved
loop-k-preserved c =
    let lights = c.args.lighting.now.lights in
    let normal = c.args.surface.now.normal in
    let point = c.args.surface.now.point in
    record {
      red = lamp-step 0 normal point lights c.loop-k.k c.get.result.now (pos c.loop-k.sum.red) (pos c.with_lamp-sum.result.red) _ c.get.ensures c.with_lamp-sum.ensures.red c.loop-k.invariant.red;
      green = lamp-step 1 normal point lights c.loop-k.k c.get.result.now (pos c.loop-k.sum.green) (pos c.with_lamp-sum.result.green) _ c.get.ensures c.with_lamp-sum.ensures.green c.loop-k.invariant.green;
      blue = lamp-step 2 normal point lights c.loop-k.k c.get.result.now (pos c.loop-k.sum.blue) (pos c.with_lamp-sum.result.blue) _ c.get.ensures c.with_lamp-sum.ensures.blue c.loop-k.invariant.blue;
      size = record {
        red = omega (arith, c.loop-k.invariant.size.red, c.with_lamp-sum.ensures.red_size);
        green = omega (arith, c.loop-k.invariant.size.green, c.with_lamp-sum.ensures.green_size);
        blue = omega (arith, c.loop-k.invariant.size.blue, c.with_lamp-sum.ensures.blue_size);
      };
    }
