use Rattle.picture_model.proofs.pictures.blend_any.Goals as goal

pub blend_hit-requires-clause-row : goal.blend_hit-requires-clause-row
blend_hit-requires-clause-row c = c.requires.row c.in-Some.row c.in-Some.is
