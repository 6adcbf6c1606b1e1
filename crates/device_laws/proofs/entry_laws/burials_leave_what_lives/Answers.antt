use Rattle.device_laws.proofs.BurialFacts.{kept_is_after}
use Rattle.device_laws.proofs.entry_laws.burials_leave_what_lives.Goals as goal

pub returns : goal.returns
returns c = kept_is_after
