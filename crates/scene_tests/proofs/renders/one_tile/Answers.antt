use Rattle.std.proofs.Common.{◌≤◌, arith, ap, ◌∙◌}
use Rattle.fx_math.specs.declared.scene.Scene.{Scene}
use Rattle.tile_claims.specs.Seats.{key_of}
use Rattle.scene_tests.proofs.TileFacts.{first_height}
use Rattle.scene_tests.proofs.renders.one_tile.Goals as goal

pub returns : goal.returns
returns g c =
    let key = key_of c.args.job.work.claims in
    let high = ap (λ (s : Scene). s.height) c.args.job.keyed in
    record { height = λ small. c.collect-pixels.ensures.filled.sized.height ∙ first_height key.w key.h (omega (arith, high, small)) ∙ high }
