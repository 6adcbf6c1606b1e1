use Rattle.std.proofs.Common.{◌≡◌, drop}
use Rattle.picture_model.specs.Shading.{primitive_at}
use Rattle.world_snapshot.proofs.searches.first_primitive.Given as goal

abbrev pub invariant-loop-row : goal.invariant-loop-row
invariant-loop-row l = primitive_at (drop l.row-index l.rows) l.place ≡ primitive_at l.rows l.place
