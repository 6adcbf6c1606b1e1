use Rattle.device_calls.proofs.ReplyFacts.{made_done}
use Rattle.device_calls.proofs.device.Device.done.Goals as goal

pub returns-in-Ok-clause-made : goal.returns-in-Ok-clause-made
returns-in-Ok-clause-made g c =
    made_done c.args.call c.in-Ok._reply c.args.pass.now c.reply.new.pass c.requires.done c.in-Ok.ensures.made c.in-Ok.ensures.grants
