use Rattle.device_laws.proofs.CallFacts.{refused_moves_nothing}
use Rattle.device_laws.proofs.flight_laws.refused_calls_move_nothing.Goals as goal

pub returns : goal.returns
returns c = refused_moves_nothing
