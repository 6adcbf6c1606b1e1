use Rattle.tile_claims.proofs.RowLaws.{rows_fill}
use Rattle.tile_claims.proofs.laws.rows_fill_a_tile.Goals as goal

pub returns : goal.returns
returns c = rows_fill
