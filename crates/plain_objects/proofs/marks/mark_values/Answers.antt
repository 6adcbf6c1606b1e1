use Rattle.std.proofs.Common.{◌≡◌, subst}
use Rattle.kind_tables.specs.SceneObjects.{objects_of}
use Rattle.seq_model.specs.Life.{has}
use Rattle.plain_objects.specs.Sweeping.{Adds}
use Rattle.plain_objects.proofs.Adding.{first_value, no_value}
use Rattle.plain_objects.proofs.marks.mark_values.Goals as goal

pub loop-value-init : goal.loop-value-init
loop-value-init c = λ last all.
    let gives : c.into_iter-value-iterator.result ≡ c.args.values.now.entries = c.into_iter-value-iterator.ensures.into_iter_gives.0 in
    subst (λ es. Adds (λ k. has k (objects_of es)) c.args.marks.now last) gives all

pub loop-value-preserved : goal.loop-value-preserved
loop-value-preserved c = λ last rest.
    c.loop-value.invariant last
    (first_value (c.in-Some.field-0-0.now, c.in-Some.value.now) c.next.new.self c.loop-value.value-iterator c.loop-value.marks c.mark_value.new.marks last c.in-Some.ensures.steps c.mark_value.auto.marks
    c.mark_value.ensures rest)

pub returns : goal.returns
returns c = c.loop-value.invariant c.loop-value.marks (no_value c.loop-value.value-iterator c.loop-value.marks c.in-None.ensures.steps.0)
