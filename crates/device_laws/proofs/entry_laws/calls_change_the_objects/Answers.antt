use Rattle.device_laws.proofs.ChangeFacts.{others_stay}
use Rattle.device_laws.proofs.entry_laws.calls_change_the_objects.Goals as goal

pub returns : goal.returns
returns c = others_stay
