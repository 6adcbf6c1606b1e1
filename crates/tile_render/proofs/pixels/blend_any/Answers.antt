use Rattle.tile_render.proofs.pixels.blend_any.Goals as goal

pub blend_hit-requires-clause-hit : goal.blend_hit-requires-clause-hit
blend_hit-requires-clause-hit c = c.requires.row c.in-Some.row c.in-Some.is
