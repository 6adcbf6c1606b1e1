use Rattle.device_calls.proofs.ReplyFacts.{property_told}
use Rattle.device_calls.proofs.device.Device.get_property.Goals as goal

pub unreachable-requires : goal.unreachable-requires
unreachable-requires g c =
    let told = property_told c.args.h c.copied-name.result c.in-Ok.reply c.args.pass.now c.reply.new.pass c.in-Ok.ensures.made c.in-Ok.ensures.grants in
    c.in_default.not-Val told.0 told.1
