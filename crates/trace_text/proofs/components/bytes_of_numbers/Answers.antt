use Rattle.trace_text.specs.Components.{component_bytes}
use Rattle.trace_text.proofs.ComponentFacts.{joined-step, joined-stops}
use Rattle.trace_text.proofs.components.bytes_of_numbers.Goals as goal

pub returns-then-not-branch : goal.returns-then-not-branch
returns-then-not-branch c =
    joined-stops (component_bytes c.args.ty) c.args.numbers.now c.loop-number.number-index _ c.loop-number.bytes.items c.push_component.new.bytes.items
    c.in_ok-push_component.field-0 _ c.loop-number-test.true c.in_ok-push_component.ensures c.if-not-branch.true c.loop-number.invariant

pub loop-number-preserved : goal.loop-number-preserved
loop-number-preserved c =
    joined-step (component_bytes c.args.ty) c.args.numbers.now c.loop-number.number-index _ c.loop-number.bytes.items c.push_component.new.bytes.items
    c.in_ok-push_component.field-0 _ c.loop-number-test.true c.in_ok-push_component.ensures c.if-not-branch.false c.loop-number.invariant
