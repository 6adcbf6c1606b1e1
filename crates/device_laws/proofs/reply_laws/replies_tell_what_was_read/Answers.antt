use Rattle.device_laws.proofs.ReplyFacts.{begun_told, quiet_told, reply_told, seen_told}
use Rattle.device_laws.proofs.reply_laws.replies_tell_what_was_read.Goals as goal

pub returns : goal.returns
returns c = record { starts = tt; looked = seen_told; quiet = quiet_told; told = reply_told; begun = begun_told }
