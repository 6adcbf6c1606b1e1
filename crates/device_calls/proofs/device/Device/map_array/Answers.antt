use Rattle.std.proofs.Common.{sym, ◌∙◌}
use Rattle.std.proofs.lemmas.Result.{IfOk-weaker}
use Rattle.device_calls.proofs.ArrayFacts.{array_mapped, map_array_refused}
use Rattle.device_calls.proofs.device.Device.map_array.Goals as goal

pub lent_or_refused-requires : goal.lent_or_refused-requires
lent_or_refused-requires g c = λ none.
    map_array_refused c.args.h c.in-Ok.reply c.in-Ok.out c.args.pass.now c.make.new.pass c.in-Ok.ensures.made c.in-Ok.ensures.sees.legal (sym none ∙ c.lent_of-lent.ensures)

pub returns-in-Ok-clause-made : goal.returns-in-Ok-clause-made
returns-in-Ok-clause-made g c =
    IfOk-weaker c.lent_or_refused.result _ _
    (λ l is. array_mapped c.args.h c.in-Ok.reply c.in-Ok.out l c.args.pass.now c.make.new.pass c.in-Ok.ensures.made (sym is ∙ c.lent_of-lent.ensures))
    c.lent_or_refused.ensures.lent
