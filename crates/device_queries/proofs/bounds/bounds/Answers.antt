use Rattle.std.proofs.Common.{◌∙◌, ap}
use Rattle.kind_tables.specs.Scenes.{primitives_of}
use Rattle.scene_read.specs.Starts.{all_seen}
use Rattle.device_queries.proofs.Corners.{numbers_are_bounds}
use Rattle.device_queries.specs.Extents.{extent_of, numbers_of}
use Rattle.device_queries.proofs.bounds.bounds.Goals as goal

pub returns : goal.returns
returns g c = λ within.
    c.numbers.ensures ∙ ap numbers_of c.extent_of.ensures
    ∙ ap (λ visits. numbers_of (extent_of (primitives_of (g.O.Objects.objects c.args.state.now) (all_seen (g.O.Objects.objects c.args.state.now) visits)))) c.as_slice.ensures
    ∙ numbers_are_bounds (primitives_of (g.O.Objects.objects c.args.state.now) (all_seen (g.O.Objects.objects c.args.state.now) c.args.visits.now)) within
