use Rattle.ray_kernel.proofs.Boxes.{shapes_within}
use Rattle.tile_render.proofs.pixels.next_hit.Goals as goal

pub hit_after-requires-clause-shapes : goal.hit_after-requires-clause-shapes
hit_after-requires-clause-shapes c = shapes_within c.args.prepared.now.primitives c.requires.primitives
