use Rattle.std.proofs.Common.{refl, subst}
use Rattle.std.specs.Option.{option_to_list}
use Rattle.byte_view.specs.Elements.{element}
use Rattle.kind_tables.specs.SceneObjects.{object_in}
use Rattle.seq_model.specs.Life.{has}
use Rattle.plain_objects.specs.Sweeping.{Adds}
use Rattle.plain_objects.proofs.Adding.{adds_none, one_more_named}
use Rattle.plain_objects.proofs.marks.mark_each.Goals as goal

pub loop-i-init : goal.loop-i-init
loop-i-init c = adds_none _ c.args.marks.now (λ k. refl)

pub loop-i-preserved : goal.loop-i-preserved
loop-i-preserved c =
    let read : Adds (λ k. has k (option_to_list (object_in (element c.args.elements.now c.loop-i.i)))) c.loop-i.marks c.mark_value.new.marks =
    subst (λ v. Adds (λ k. has k (option_to_list (object_in v))) c.loop-i.marks c.mark_value.new.marks) c.get.ensures c.mark_value.ensures in
    one_more_named (λ i. object_in (element c.args.elements.now i)) c.loop-i.i c.args.marks.now c.loop-i.marks c.mark_value.new.marks c.loop-i.auto.marks c.loop-i.invariant read
