use Rattle.std.proofs.Common.{◌≡◌, ◌∙◌, Result, Ok, Err, Option, Some, None, true, refl, subst, sym}
use Rattle.std.specs.Prelude.{OnOk}
use Rattle.std.specs.Option.{is_some}
use Rattle.device_parts.specs.declared.handed.Handed.TheVariants as hand
use Rattle.seq_model.specs.declared.calls.Call.TheVariants.{UnmapArray}
use Rattle.device_calls.specs.Passes.{HasCalled}
use Rattle.device_calls.proofs.ArrayFacts.{unmap_back, unmap_done}
use Rattle.device_calls.proofs.device.Device.unmap_array.Goals as goal

on_ok : {A B : Type 0} (r : Result A B) (X Y : Type 0) → (X → Y) → OnOk r X → OnOk r Y
on_ok (Ok a) X Y f x = f x
on_ok (Err b) X Y f x = tt

some_by : {X : Type 0} (x : Option X) (P : Type 0) → ((v : X) → x ≡ Some v → P) → is_some x ≡ true → P
some_by None P f is = absurd cc
some_by (Some v) P f is = f v refl

pub done_or_back-requires : goal.done_or_back-requires
done_or_back-requires g c =
    some_by c.lent_of-back.result _ (λ m is.
    unmap_back _ _ _ _ m c.in-Ok-make.reply c.in-Ok-make.out c.args.pass.now c.make.new.pass c.in-Ok-make.ensures.made (sym is ∙ c.lent_of-back.ensures))

pub returns-in-Ok-make-clause-made : goal.returns-in-Ok-make-clause-made
returns-in-Ok-make-clause-made g c =
    let lent = c.args.lent in
    let made = subst (λ n. HasCalled (UnmapArray lent.array n lent.elements.bytes) (hand.Lent lent) c.in-Ok-make.reply c.in-Ok-make.out c.args.pass.now c.make.new.pass)
    c.number-number.ensures
    (subst (λ h. HasCalled (UnmapArray h c.number-number.result lent.elements.bytes) (hand.Lent lent) c.in-Ok-make.reply c.in-Ok-make.out c.args.pass.now c.make.new.pass)
    c.array-h.ensures
    (subst (λ b. HasCalled (UnmapArray c.array-h.result c.number-number.result b) (hand.Lent lent) c.in-Ok-make.reply c.in-Ok-make.out c.args.pass.now c.make.new.pass)
    (c.in-Ok.ensures ∙ c.bytes.ensures) c.in-Ok-make.ensures.made)) in
    on_ok c.done_or_back.result (c.lent_of-back.result ≡ None) _
    (λ none. unmap_done lent.array lent.number lent.elements.bytes lent c.in-Ok-make.reply c.in-Ok-make.out c.args.pass.now c.make.new.pass made
    (sym none ∙ c.lent_of-back.ensures))
    c.done_or_back.ensures.done
