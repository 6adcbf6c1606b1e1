use Rattle.device_calls.proofs.ReplyFacts.{object_made}
use Rattle.device_calls.proofs.device.Device.new_object.Goals as goal

pub unreachable-requires : goal.unreachable-requires
unreachable-requires g c =
    let made = object_made c.args.ty c.copied-subtype.result c.in-Ok.reply c.args.pass.now c.reply.new.pass c.in-Ok.ensures.made c.in-Ok.ensures.grants in
    c.in_default.not-Made made.0 made.1
