use Rattle.std.proofs.Common.{◌≡◌, ◌-◌, ◌≤◌, ℕ, pos, ◌-ℤ◌, to_z, of_z, arith}
use Rattle.std.proofs.lemmas.Int.{ints}
use Rattle.picture_model.proofs.Numbers.{read_wide}
use Rattle.picture_model.specs.Shading.{finish_blend}
use mir.Syntax.{w128}
use Rattle.picture_model.proofs.shading.finish_blend.Goals as goal

-- what the hits took, as the code reads it
read_taken : (rest : ℕ) → rest ≤ 65536 → to_z w128 (of_z w128 (pos 65536 -ℤ to_z w128 rest)) ≡ pos (65536 - rest)
read_taken rest h = omega (arith, ints)

pub returns : goal.returns
unfolding finish_blend
returns c =
    let red = read_wide c.shown.result c.shown.type_inv in
    let green = read_wide c.shown-2.result c.shown-2.type_inv in
    let blue = read_wide c.shown-3.result c.shown-3.type_inv in
    let taken = read_taken c.args.blend.now.rest c.requires.blend.rest in
    cc
