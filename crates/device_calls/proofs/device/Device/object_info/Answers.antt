use Rattle.device_calls.proofs.ReplyFacts.{object_told}
use Rattle.device_calls.proofs.device.Device.object_info.Goals as goal

pub unreachable-requires : goal.unreachable-requires
unreachable-requires g c =
    let told = object_told c.args.ty c.copied-subtype.result c.in-Ok.reply c.args.pass.now c.reply.new.pass c.in-Ok.ensures.made c.in-Ok.ensures.grants in
    c.in_default.not-Listed told.0 told.1
