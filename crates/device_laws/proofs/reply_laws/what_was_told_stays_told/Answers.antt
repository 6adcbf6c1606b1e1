use Rattle.device_laws.proofs.ReplyFacts.{asked_told, discarded_told, one_told}
use Rattle.device_laws.proofs.reply_laws.what_was_told_stays_told.Goals as goal

pub returns : goal.returns
returns c = record { discarded = discarded_told; asked = asked_told; flight = one_told }
