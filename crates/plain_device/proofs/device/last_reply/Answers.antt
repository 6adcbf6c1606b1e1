use Rattle.std.proofs.Common.{◌∙◌, Some, rules}
use Rattle.plain_device.proofs.Lasts.{last_reply_is}
use Rattle.plain_device.proofs.device.last_reply.Goals as goal

pub returns : goal.returns
returns c = c.reply_in.ensures ∙ last_reply_is c.args.entries.now (Some c.in_ok-last.field-0.now) (search rules)
