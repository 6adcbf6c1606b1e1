use Rattle.std.proofs.Common.{refl}
use Rattle.past_laws.proofs.WorldFacts.{knows_nothing}
use Rattle.plain_journal.proofs.worlds.Worlds.new.Goals as goal

pub returns : goal.returns
returns c = knows_nothing _ c.new.ensures.items refl
