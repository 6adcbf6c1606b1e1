use Rattle.flight_books.proofs.EndLaws.{swept_pairs}
use Rattle.flight_books.proofs.laws.a_sweep_keeps_pairs.Goals as goal

pub returns : goal.returns
returns g c = swept_pairs
