use Rattle.device_calls.proofs.ReplyFacts.{parameter_told}
use Rattle.device_calls.proofs.device.Device.parameter_info.Goals as goal

pub unreachable-requires : goal.unreachable-requires
unreachable-requires g c =
    let told = parameter_told c.args.ty c.copied-subtype.result c.copied-name.result c.in-Ok.reply c.args.pass.now c.reply.new.pass c.in-Ok.ensures.made c.in-Ok.ensures.grants in
    c.in_default.not-Info told.0 told.1
