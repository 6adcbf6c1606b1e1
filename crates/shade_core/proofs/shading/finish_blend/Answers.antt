use Rattle.std.proofs.Common.{◌≡◌, ◌-◌, ◌^◌, ◌≤◌, ℕ, pos, ◌-ℤ◌, to_z, of_z, arith}
use Rattle.std.proofs.lemmas.Int.{ints}
use Rattle.picture_model.proofs.Numbers.{abs-between, read_wide_sum}
use Rattle.picture_model.specs.Shading.{component, finish_blend}
use mir.Syntax.{w128}
use Rattle.shade_core.proofs.Blends.{shown-is}
use Rattle.shade_core.proofs.shading.finish_blend.Goals as goal

-- what the hits took, as the code reads it
read_taken : (rest : ℕ) → rest ≤ 65536 → to_z w128 (of_z w128 (pos 65536 -ℤ to_z w128 rest)) ≡ pos (65536 - rest)
read_taken rest h = omega (arith, ints)

pub returns : goal.returns
unfolding finish_blend
returns c =
    let red_size = abs-between 0 (2 ^ 101) (component c.args.b.now.sum 0) c.requires.room.red in
    let red = read_wide_sum (component c.args.b.now.sum 0) c.behind.result (omega arith) (omega (arith, c.behind.ensures.size)) in
    let red_is = shown-is 0 c.args.lighting.now c.args.b.now c.component.result c.behind.result c.component.ensures.value c.behind.ensures.value in
    let green_size = abs-between 0 (2 ^ 101) (component c.args.b.now.sum 1) c.requires.room.green in
    let green = read_wide_sum (component c.args.b.now.sum 1) c.behind-2.result (omega arith) (omega (arith, c.behind-2.ensures.size)) in
    let green_is = shown-is 1 c.args.lighting.now c.args.b.now c.component-2.result c.behind-2.result c.component-2.ensures.value c.behind-2.ensures.value in
    let blue_size = abs-between 0 (2 ^ 101) (component c.args.b.now.sum 2) c.requires.room.blue in
    let blue = read_wide_sum (component c.args.b.now.sum 2) c.behind-3.result (omega arith) (omega (arith, c.behind-3.ensures.size)) in
    let blue_is = shown-is 2 c.args.lighting.now c.args.b.now c.component-3.result c.behind-3.result c.component-3.ensures.value c.behind-3.ensures.value in
    let taken = read_taken c.args.b.now.rest c.requires.room.rest in
    cc
