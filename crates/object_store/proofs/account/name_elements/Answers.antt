use Rattle.std.proofs.Common.{◌≡◌, ◌+◌, ◌≤◌, ◌^◌, ◌∙◌, [], arith, ap, sym, subst, refl}
use Rattle.std.specs.Option.{option_to_list}
use Rattle.byte_view.specs.Elements.{element}
use Rattle.kind_tables.specs.SceneObjects.{object_in}
use Rattle.ref_counts.specs.CountMaps.{named_at}
use Rattle.dev_types.specs.Counting.{times}
use Rattle.object_store.specs.Moves.{Moves}
use Rattle.object_store.specs.Parts.{named_below}
use Rattle.object_store.proofs.MoveFacts.{moves_both, moves_none}
use Rattle.object_store.proofs.NamedFacts.{named_before, named_next, named_short}
use Rattle.object_store.proofs.account.name_elements.Goals as goal

pub loop-i-init : goal.loop-i-init
loop-i-init c = moves_none c.args.counts.now

pub name_some-requires-clause-there : goal.name_some-requires-clause-there
name_some-requires-clause-there c = λ h some.
    let here : times h (option_to_list c.object_in.result) ≡ times h (option_to_list (object_in (element c.args.elements.now c.loop-i.i))) =
    ap (λ o. times h (option_to_list o)) (c.object_in.ensures ∙ ap object_in c.get.ensures) in
    let before : times h (named_below c.args.elements.now c.loop-i.i) + times h (option_to_list (object_in (element c.args.elements.now c.loop-i.i))) ≤ times h (named_below c.args.elements.now c.args.elements.now.count) =
    named_before c.args.elements.now h c.loop-i.i c.args.elements.now.count (omega (arith, c.loop-i-test.true, c.len-i-end.ensures)) in
    c.loop-i.invariant.there h ∙ c.requires.there h (omega (arith, some, here, before))

pub name_some-requires-clause-fits : goal.name_some-requires-clause-fits
name_some-requires-clause-fits c = λ h.
    let none : times h [] ≡ 0 = refl in
    let so_far : named_at c.loop-i.counts h + times h [] ≡ named_at c.args.counts.now h + times h (named_below c.args.elements.now c.loop-i.i) = c.loop-i.invariant.named h in
    let fits : named_at c.args.counts.now h + c.args.elements.now.count ≤ 2 ^ 63 = c.requires.fits h in
    omega (arith, none, so_far, fits, named_short c.args.elements.now h c.loop-i.i, c.loop-i-test.true, c.len-i-end.ensures)

pub loop-i-preserved : goal.loop-i-preserved
loop-i-preserved c =
    let more : Moves c.loop-i.counts c.name_some.new.counts (option_to_list (object_in (element c.args.elements.now c.loop-i.i))) [] =
    subst (λ o. Moves c.loop-i.counts c.name_some.new.counts (option_to_list o) []) (c.object_in.ensures ∙ ap object_in c.get.ensures) c.name_some.ensures in
    subst (λ added. Moves c.args.counts.now c.name_some.new.counts added []) (sym (named_next c.args.elements.now c.loop-i.i))
    (moves_both c.args.counts.now c.loop-i.counts c.name_some.new.counts (named_below c.args.elements.now c.loop-i.i) (option_to_list (object_in (element c.args.elements.now c.loop-i.i))) [] [] c.loop-i.invariant more)

pub returns : goal.returns
returns c =
    let end : c.loop-i.i ≡ c.args.elements.now.count = omega (arith, c.loop-i-test.false, c.loop-i.auto.i-end, c.len-i-end.ensures) in
    subst (λ i. Moves c.args.counts.now c.loop-i.counts (named_below c.args.elements.now i) []) end c.loop-i.invariant
