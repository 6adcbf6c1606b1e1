use Rattle.std.proofs.Common.{◌≡◌, ◌∙◌, Option, Some, None, true, refl, sym}
use Rattle.std.specs.Option.{is_some}
use Rattle.device_calls.proofs.ArrayFacts.{unmap_param_back, unmap_param_done}
use Rattle.device_calls.proofs.device.Device.unmap_parameter_array.Goals as goal

some_by : {X : Type 0} (x : Option X) (P : Type 0) → ((v : X) → x ≡ Some v → P) → is_some x ≡ true → P
some_by None P f is = absurd cc
some_by (Some v) P f is = f v refl

pub made_or_back-requires-clause-back : goal.made_or_back-requires-clause-back
made_or_back-requires-clause-back g c =
    some_by c.param_of-back.result _ (λ m is.
    unmap_param_back _ _ _ _ _ m c.in-Ok-make.reply c.in-Ok-make.out c.args.pass.now c.make.new.pass c.in-Ok-make.ensures.made (sym is ∙ c.param_of-back.ensures))

pub made_or_back-requires-clause-made : goal.made_or_back-requires-clause-made
made_or_back-requires-clause-made g c = λ none.
    (unmap_param_done _ _ _ _ _ c.in-Ok-make.reply c.in-Ok-make.out c.args.pass.now c.make.new.pass c.in-Ok-make.ensures.made (sym none ∙ c.param_of-back.ensures)).0
