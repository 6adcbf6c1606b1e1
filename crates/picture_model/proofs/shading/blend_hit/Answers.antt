use Rattle.std.proofs.Common.{FitsSigned, rules}
use Rattle.std.proofs.lemmas.Int.{to_z-of_z}
use Rattle.picture_model.proofs.Numbers.{read_wide}
use Rattle.picture_model.specs.Shading.{blend_hit}
use mir.Syntax.{w32}
use Rattle.picture_model.proofs.shading.blend_hit.Goals as goal

pub returns-clause-value : goal.returns-clause-value
unfolding blend_hit
returns-clause-value c =
    let range : FitsSigned w32 c.args.row.now.opacity = search rules in
    let opacity = to_z-of_z w32 c.args.row.now.opacity range in
    let red = read_wide c.blended.result c.blended.type_inv in
    let green = read_wide c.blended-2.result c.blended-2.type_inv in
    let blue = read_wide c.blended-3.result c.blended-3.type_inv in
    cc
