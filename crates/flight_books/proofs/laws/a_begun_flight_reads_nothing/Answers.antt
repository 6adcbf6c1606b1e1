use Rattle.frame_future.proofs.AloneLaws.{fresh_reads_nothing}
use Rattle.flight_books.proofs.EndLaws.{begun_claims_nothing}
use Rattle.flight_books.proofs.laws.a_begun_flight_reads_nothing.Goals as goal

pub returns-clause-claimed : goal.returns-clause-claimed
returns-clause-claimed c = begun_claims_nothing

pub returns-clause-given : goal.returns-clause-given
returns-clause-given c = fresh_reads_nothing
