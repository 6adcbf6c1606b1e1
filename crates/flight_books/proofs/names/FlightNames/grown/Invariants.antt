use Rattle.std.proofs.Common.{◌++◌, Some}
use Rattle.flight_books.specs.Kept.{over_by}
use Rattle.flight_books.proofs.names.FlightNames.grown.Given as goal

abbrev pub ghost-of : goal.ghost-of
ghost-of a = a._names.now.list ++ over_by a._before.now.value (Some a._ended.now)
