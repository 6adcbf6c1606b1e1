use Rattle.picture_model.proofs.Tilings.{tile_rect-alone, tile_rect-holds}
use Rattle.picture_model.proofs.tiles.tile_of.Goals as goal

pub returns-clause-inside : goal.returns-clause-inside
returns-clause-inside c = rw c.tiles_over.ensures (tile_rect-holds c.args.w c.args.h c.args.x c.args.y c.requires.column c.requires.row)

pub returns-clause-alone : goal.returns-clause-alone
returns-clause-alone c = λ tile counted inside. rw c.tiles_over.ensures (tile_rect-alone c.args.w c.args.h c.args.x c.args.y tile inside)
