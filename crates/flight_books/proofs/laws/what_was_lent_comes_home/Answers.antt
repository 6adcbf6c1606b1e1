use Rattle.flight_books.proofs.PairLaws.{lent_home}
use Rattle.flight_books.proofs.laws.what_was_lent_comes_home.Goals as goal

pub returns : goal.returns
returns c = lent_home
