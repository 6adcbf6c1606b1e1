use Rattle.std.proofs.Common.{sym, ◌∙◌, subst}
use Rattle.std.proofs.lemmas.Result.{IfOk-weaker}
use Rattle.device_parts.specs.declared.handed.Handed.TheVariants as hand
use Rattle.seq_model.specs.declared.calls.Call.TheVariants.{MapParameterArray}
use Rattle.device_calls.specs.Passes.{HasCalled}
use Rattle.device_calls.proofs.ArrayFacts.{map_param_refused, param_mapped}
use Rattle.device_calls.proofs.device.Device.map_parameter_array.Goals as goal

pub lent_or_refused-requires : goal.lent_or_refused-requires
lent_or_refused-requires g c = λ none.
    map_param_refused c.args.h _ c.args.elem c.args.count c.in-Ok.reply c.in-Ok.out c.args.pass.now c.make.new.pass c.in-Ok.ensures.made
    (sym none ∙ c.param_of-lent.ensures)

pub returns-in-Ok-clause-made : goal.returns-in-Ok-clause-made
returns-in-Ok-clause-made g c =
    let made = subst
    (λ name. HasCalled (MapParameterArray c.args.h name c.args.elem c.args.count) hand.Nothing c.in-Ok.reply c.in-Ok.out c.args.pass.now c.make.new.pass)
    c.copied-name.ensures c.in-Ok.ensures.made in
    IfOk-weaker c.lent_or_refused.result _ _
    (λ l is. param_mapped c.args.h c.args.name.now c.args.elem c.args.count c.in-Ok.reply c.in-Ok.out l c.args.pass.now c.make.new.pass made
    (sym is ∙ c.param_of-lent.ensures))
    c.lent_or_refused.ensures.lent
