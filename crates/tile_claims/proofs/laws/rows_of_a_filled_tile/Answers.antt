use Rattle.tile_claims.proofs.RowLaws.{filled_rows}
use Rattle.tile_claims.proofs.laws.rows_of_a_filled_tile.Goals as goal

pub returns : goal.returns
returns c = filled_rows
