use Rattle.device_laws.proofs.DeadFacts.{leaves_but}
use Rattle.device_laws.proofs.entry_laws.burials_leave_all_but_what_goes.Goals as goal

pub returns : goal.returns
returns c = leaves_but
