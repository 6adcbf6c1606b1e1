use Rattle.room_laws.proofs.LoanFacts.{moves, starts}
use Rattle.room_laws.proofs.laws.loans_are_counted.Goals as goal

pub returns-clause-starts : goal.returns-clause-starts
returns-clause-starts c = starts

pub returns-clause-moves : goal.returns-clause-moves
returns-clause-moves c = moves
