use Rattle.ray_kernel.proofs.Boxes.{shapes_within}
use Rattle.tile_render.proofs.pixels.first_hit.Goals as goal

pub nearest-requires-clause-shapes : goal.nearest-requires-clause-shapes
nearest-requires-clause-shapes c = shapes_within c.args.prepared.now.primitives c.requires.primitives
