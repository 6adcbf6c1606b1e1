use Rattle.std.proofs.Common.{◌∙◌}
use Rattle.scene_read.proofs.GeometryFacts.{spheres_tested}
use Rattle.scene_read.specs.Tested.{test_of}
use Rattle.scene_read.proofs.geometry_ranges.broken_spheres.Goals as goal

pub returns : goal.returns
returns g c =
    c.first_broken.ensures
    ∙ spheres_tested (g.O.Objects.objects c.args.state.now) c.args.h c.args.m.now c.array-positions.result c.are_centres.result c.count_in.result (test_of c.radius_test.result)
    c.array-positions.ensures.value c.are_centres.ensures c.count_in.ensures.value c.radius_test.ensures.value
