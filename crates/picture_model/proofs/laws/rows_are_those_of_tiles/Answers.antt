use Rattle.picture_model.proofs.PixelRows.{row_of-tiles}
use Rattle.picture_model.specs.Pictures.{pixel}
use Rattle.picture_model.proofs.laws.rows_are_those_of_tiles.Goals as goal

pub returns : goal.returns
returns c = row_of-tiles (pixel c.args.scene.now c.args.plane) c.args.scene.now.width c.args.scene.now.height c.args.y
