use Rattle.device_calls.proofs.ReplyFacts.{subtypes_told}
use Rattle.device_calls.proofs.device.Device.subtypes.Goals as goal

pub unreachable-requires : goal.unreachable-requires
unreachable-requires g c =
    let told = subtypes_told c.args.ty c.in-Ok.reply c.args.pass.now c.reply.new.pass c.in-Ok.ensures.made c.in-Ok.ensures.grants in
    c.in_default.not-Listed told.0 told.1
