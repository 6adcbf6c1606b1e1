use Rattle.device_calls.proofs.ReplyFacts.{array_made}
use Rattle.device_calls.proofs.device.Device.new_array.Goals as goal

pub unreachable-requires : goal.unreachable-requires
unreachable-requires g c =
    let made = array_made c.args.elem c.args.count c.args.stride c.args.origin _ c.in-Ok-reply.reply c.args.pass.now c.reply.new.pass c.in-Ok-reply.ensures.made c.in-Ok-reply.ensures.grants in
    c.in_default.not-Made made.0 made.1
