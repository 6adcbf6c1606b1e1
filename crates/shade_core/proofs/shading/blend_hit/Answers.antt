use Rattle.std.proofs.Common.{◌≡◌, ◌+◌, ◌^◌, ◌≤◌, FitsSigned, unsigned_abs, arith, rules, refl}
use Rattle.std.proofs.lemmas.Int.{ints, to_z-of_z}
use Rattle.picture_model.proofs.Numbers.{abs-between, read_wide_sum}
use Rattle.picture_model.specs.Shading.{blend_hit, component, weight}
use mir.Syntax.{w32}
use Rattle.shade_core.proofs.Blends.{blended-is, sum-between, sum-within, wider}
use Rattle.shade_core.proofs.shading.blend_hit.Goals as goal

pub overflow_add-b-3 : goal.overflow_add-b-3
overflow_add-b-3 c =
    let blue = abs-between 0 (2 ^ 100) (component c.args.b.now.sum 2) c.requires.room.blue in
    let size : unsigned_abs c.returned-3.result ≤ 2 ^ 72 = omega (arith, c.returned-3.ensures.size, c.weight-taken.ensures.size, c.requires.room.rest) in
    omega (arith, ints)

pub returns-clause-value : goal.returns-clause-value
unfolding blend_hit
returns-clause-value c =
    let red_size = abs-between 0 (2 ^ 100) (component c.args.b.now.sum 0) c.requires.room.red in
    let red = read_wide_sum (component c.args.b.now.sum 0) c.returned.result (omega arith) (omega (arith, c.returned.ensures.size, c.weight-taken.ensures.size, c.requires.room.rest)) in
    let green_size = abs-between 0 (2 ^ 100) (component c.args.b.now.sum 1) c.requires.room.green in
    let green = read_wide_sum (component c.args.b.now.sum 1) c.returned-2.result (omega arith) (omega (arith, c.returned-2.ensures.size, c.weight-taken.ensures.size, c.requires.room.rest)) in
    let blue_size = abs-between 0 (2 ^ 100) (component c.args.b.now.sum 2) c.requires.room.blue in
    let blue = read_wide_sum (component c.args.b.now.sum 2) c.returned-3.result (omega arith) (omega (arith, c.returned-3.ensures.size, c.weight-taken.ensures.size, c.requires.room.rest)) in
    let range : FitsSigned w32 c.args.hit.now.opacity = search rules in
    let taken : c.weight-taken.result ≡ weight c.args.b.now.rest c.args.hit.now.opacity = rw (to_z-of_z w32 c.args.hit.now.opacity range) at c.weight-taken.ensures.value in
    let red_is = blended-is 0 c.args.lighting.now c.args.ray.now c.args.b.now c.args.hit.now c.surface_at.result.point c.surface_at.result.normal c.component.result c.incoming-light.result.red c.weight-taken.result c.returned.result c.surface_at.ensures.point c.surface_at.ensures.normal c.incoming-light.ensures.value.red c.component.ensures.value taken c.returned.ensures.value in
    let green_is = blended-is 1 c.args.lighting.now c.args.ray.now c.args.b.now c.args.hit.now c.surface_at.result.point c.surface_at.result.normal c.component-2.result c.incoming-light.result.green c.weight-taken.result c.returned-2.result c.surface_at.ensures.point c.surface_at.ensures.normal c.incoming-light.ensures.value.green c.component-2.ensures.value taken c.returned-2.ensures.value in
    let blue_is = blended-is 2 c.args.lighting.now c.args.ray.now c.args.b.now c.args.hit.now c.surface_at.result.point c.surface_at.result.normal c.component-3.result c.incoming-light.result.blue c.weight-taken.result c.returned-3.result c.surface_at.ensures.point c.surface_at.ensures.normal c.incoming-light.ensures.value.blue c.component-3.ensures.value taken c.returned-3.ensures.value in
    rw (red, green, blue, red_is, green_is, blue_is, taken) refl

pub returns-clause-size : goal.returns-clause-size
returns-clause-size c =
    let red_size = abs-between 0 (2 ^ 100) (component c.args.b.now.sum 0) c.requires.room.red in
    let red = read_wide_sum (component c.args.b.now.sum 0) c.returned.result (omega arith) (omega (arith, c.returned.ensures.size, c.weight-taken.ensures.size, c.requires.room.rest)) in
    let green_size = abs-between 0 (2 ^ 100) (component c.args.b.now.sum 1) c.requires.room.green in
    let green = read_wide_sum (component c.args.b.now.sum 1) c.returned-2.result (omega arith) (omega (arith, c.returned-2.ensures.size, c.weight-taken.ensures.size, c.requires.room.rest)) in
    let blue_size = abs-between 0 (2 ^ 100) (component c.args.b.now.sum 2) c.requires.room.blue in
    let blue = read_wide_sum (component c.args.b.now.sum 2) c.returned-3.result (omega arith) (omega (arith, c.returned-3.ensures.size, c.weight-taken.ensures.size, c.requires.room.rest)) in
    rw (red, green, blue)
    (record {
      red = wider _ (2 ^ 100 + 2 ^ 72) (2 ^ 101) (sum-between (component c.args.b.now.sum 0) c.returned.result _ (2 ^ 100) (2 ^ 72) c.requires.room.red c.returned.ensures.value (omega (arith, c.returned.ensures.size, c.weight-taken.ensures.size, c.requires.room.rest))) (omega arith);
      green = wider _ (2 ^ 100 + 2 ^ 72) (2 ^ 101) (sum-between (component c.args.b.now.sum 1) c.returned-2.result _ (2 ^ 100) (2 ^ 72) c.requires.room.green c.returned-2.ensures.value (omega (arith, c.returned-2.ensures.size, c.weight-taken.ensures.size, c.requires.room.rest))) (omega arith);
      blue = wider _ (2 ^ 100 + 2 ^ 72) (2 ^ 101) (sum-between (component c.args.b.now.sum 2) c.returned-3.result _ (2 ^ 100) (2 ^ 72) c.requires.room.blue c.returned-3.ensures.value (omega (arith, c.returned-3.ensures.size, c.weight-taken.ensures.size, c.requires.room.rest))) (omega arith);
      rest = omega (arith, c.requires.room.rest);
    })

pub returns-clause-within : goal.returns-clause-within
returns-clause-within c = λ within.
    let red_size = abs-between 0 (2 ^ 100) (component c.args.b.now.sum 0) c.requires.room.red in
    let red = read_wide_sum (component c.args.b.now.sum 0) c.returned.result (omega arith) (omega (arith, c.returned.ensures.size, c.weight-taken.ensures.size, c.requires.room.rest)) in
    let green_size = abs-between 0 (2 ^ 100) (component c.args.b.now.sum 1) c.requires.room.green in
    let green = read_wide_sum (component c.args.b.now.sum 1) c.returned-2.result (omega arith) (omega (arith, c.returned-2.ensures.size, c.weight-taken.ensures.size, c.requires.room.rest)) in
    let blue_size = abs-between 0 (2 ^ 100) (component c.args.b.now.sum 2) c.requires.room.blue in
    let blue = read_wide_sum (component c.args.b.now.sum 2) c.returned-3.result (omega arith) (omega (arith, c.returned-3.ensures.size, c.weight-taken.ensures.size, c.requires.room.rest)) in
    rw (red, green, blue)
    (record {
      red = sum-within (component c.args.b.now.sum 0) c.returned.result _ c.args.b.now.rest c.weight-taken.result within.red c.returned.ensures.value c.returned.ensures.size c.weight-taken.ensures.size;
      green = sum-within (component c.args.b.now.sum 1) c.returned-2.result _ c.args.b.now.rest c.weight-taken.result within.green c.returned-2.ensures.value c.returned-2.ensures.size c.weight-taken.ensures.size;
      blue = sum-within (component c.args.b.now.sum 2) c.returned-3.result _ c.args.b.now.rest c.weight-taken.result within.blue c.returned-3.ensures.value c.returned-3.ensures.size c.weight-taken.ensures.size;
      rest = omega (arith, c.requires.room.rest);
    })
