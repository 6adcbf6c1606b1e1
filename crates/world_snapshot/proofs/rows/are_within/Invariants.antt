use Rattle.std.proofs.Common.{ℕ, ◌<◌, get_or}
use Rattle.fx_math.specs.declared.scene.Primitive.{Primitive}
use Rattle.picture_model.specs.Limits.{IsShapeWithin}
use Rattle.world_snapshot.proofs.rows.are_within.Given as goal

abbrev pub invariant-loop-k : goal.invariant-loop-k
invariant-loop-k l = (j : ℕ) (d : Primitive) → j < l.k → IsShapeWithin (get_or l.rows j d).shape
