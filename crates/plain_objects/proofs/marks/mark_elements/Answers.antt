use Rattle.std.proofs.Common.{◌≡◌, ◌∙◌, false, ap, subst, sym}
use Rattle.dev_types.specs.DataTypes.{is_object_type}
use Rattle.seq_model.specs.Life.{has}
use Rattle.seq_model.specs.State.{ArrayState}
use Rattle.plain_objects.proofs.Adding.{adds_none, adds_same, elements_of, values_name_none, view_names}
use Rattle.plain_objects.proofs.marks.mark_elements.Goals as goal

pub returns-then-is_object : goal.returns-then-is_object
returns-then-is_object c =
    let lent : c.over.result ≡ elements_of c.args.array.now.block =
    subst (λ (a : ArrayState). c.over.result ≡ elements_of a.block) c.array.view_is
    (c.over.ensures ∙ ap (λ bytes. record { ty = c.array.inside.elem; stride = c.array.inside.stride; count = c.array.inside.count; bytes = bytes }) c.as_slice-bytes.ensures) in
    adds_same _ _ c.args.marks.now c.mark_each.new.marks (λ k. ap (has k) (view_names c.args.array.now.block c.over.result lent)) c.mark_each.ensures

pub returns-else-is_object : goal.returns-else-is_object
returns-else-is_object c =
    let values : is_object_type c.args.array.now.block.elem ≡ false =
    subst (λ (a : ArrayState). is_object_type a.block.elem ≡ false) c.array.view_is (sym c.is_object.ensures ∙ c.if-is_object.false) in
    adds_none _ c.args.marks.now (λ k. ap (has k) (values_name_none c.args.array.now.block values))
