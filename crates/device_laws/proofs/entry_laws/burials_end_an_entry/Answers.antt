use Rattle.device_laws.proofs.BurialFacts.{buried_is_after}
use Rattle.device_laws.proofs.entry_laws.burials_end_an_entry.Goals as goal

pub returns : goal.returns
returns c = buried_is_after
