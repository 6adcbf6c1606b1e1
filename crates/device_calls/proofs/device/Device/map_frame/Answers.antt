use Rattle.std.proofs.Common.{◌∙◌, ap, sym}
use Rattle.std.proofs.lemmas.Result.{IfOk-weaker}
use Rattle.device_parts.specs.Maps.{is_refused}
use Rattle.device_calls.proofs.FrameFacts.{map_refused, map_told}
use Rattle.device_calls.proofs.device.Device.map_frame.Goals as goal

pub lent_or_refused-requires : goal.lent_or_refused-requires
lent_or_refused-requires g c = λ none.
    let refused = map_refused c.args.h c.args.channel c.in-Ok.reply c.in-Ok.out c.args.pass.now c.make.new.pass c.in-Ok.ensures.made (sym none ∙ c.channel_of-lent.ensures) in
    ap is_refused refused.1

pub returns-in-Ok-clause-made : goal.returns-in-Ok-clause-made
returns-in-Ok-clause-made g c =
    IfOk-weaker c.lent_or_refused.result _ _
    (λ m is. map_told c.args.h c.args.channel c.in-Ok.reply c.in-Ok.out m c.args.pass.now c.make.new.pass c.in-Ok.ensures.made (sym is ∙ c.channel_of-lent.ensures))
    c.lent_or_refused.ensures.lent
