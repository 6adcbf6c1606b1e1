use Rattle.std.proofs.Common.{rules}
use Rattle.picture_model.specs.Limits.{IsSceneWithin}
use Rattle.ray_kernel.proofs.Boxes.{shapes_within}
use Rattle.kernel_tests.proofs.searches.scene.Goals as goal

pub returns-clause-shapes : goal.returns-clause-shapes
returns-clause-shapes g c =
    let within : IsSceneWithin _ = c.is_scene_within.ensures.0 (search rules) in shapes_within c.new.result within.primitives
