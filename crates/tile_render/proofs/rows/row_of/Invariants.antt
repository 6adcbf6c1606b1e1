use Rattle.world_snapshot.specs.Works.{scene_of_work}
use Rattle.tile_render.specs.Filled.{AreInRow}
use Rattle.tile_render.proofs.rows.row_of.Given as goal

abbrev pub invariant-loop-i : goal.invariant-loop-i
invariant-loop-i l = AreInRow (scene_of_work l.work) l.rect.x0 l.i l.y l.row
