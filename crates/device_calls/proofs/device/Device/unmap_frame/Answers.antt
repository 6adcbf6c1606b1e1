use Rattle.std.proofs.Common.{◌≡◌, ◌∙◌, Result, Ok, Err, None, subst, sym}
use Rattle.std.specs.Prelude.{OnOk}
use Rattle.device_parts.specs.declared.handed.Handed.TheVariants as hand
use Rattle.seq_model.specs.declared.calls.Call.TheVariants.{UnmapFrame}
use Rattle.device_calls.specs.Passes.{HasCalled}
use Rattle.device_calls.proofs.FrameFacts.{unmap_done}
use Rattle.device_calls.proofs.device.Device.unmap_frame.Goals as goal

on_ok : {A B : Type 0} (r : Result A B) (X Y : Type 0) → (X → Y) → OnOk r X → OnOk r Y
on_ok (Ok a) X Y f x = f x
on_ok (Err b) X Y f x = tt

pub returns-in-Ok-clause-made : goal.returns-in-Ok-clause-made
returns-in-Ok-clause-made g c =
    let frame = c.args.frame in
    let made = subst (λ n. HasCalled (UnmapFrame frame.frame n) (hand.Frame frame) c.in-Ok.reply c.in-Ok.out c.args.pass.now c.make.new.pass) c.number-number.ensures
    (subst (λ h. HasCalled (UnmapFrame h c.number-number.result) (hand.Frame frame) c.in-Ok.reply c.in-Ok.out c.args.pass.now c.make.new.pass) c.frame-h.ensures c.in-Ok.ensures.made) in
    on_ok c.done_or_back.result (c.channel_of-back.result ≡ None) _
    (λ none. unmap_done frame.frame frame.number frame c.in-Ok.reply c.in-Ok.out c.args.pass.now c.make.new.pass made (sym none ∙ c.channel_of-back.ensures))
    c.done_or_back.ensures.done
