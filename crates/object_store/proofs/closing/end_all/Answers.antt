use Rattle.std.proofs.Common.{◌≡◌, ◌∙◌, refl, sym, ap, subst, arith}
use Rattle.handle_table.specs.HandleMaps.{RiseWithin}
use Rattle.object_store.specs.Ends.{Ends}
use Rattle.object_store.proofs.Closings.{all_ended, at_least_one, end_fits, none_ended, none_ends, one_ends}
use Rattle.object_store.proofs.closing.end_all.Goals as goal

pub loop-h-init : goal.loop-h-init
loop-h-init c =
    let next : c.h.inside.0 ≡ c.args.slots.now.next = c.h.view_is ∙ c.next.ensures.value in (
      (λ i. record { list = (c.requires.none ∙ sym (none_ended c.args.slots.now c.args.arrays c.h.inside.0 (subst (λ n. RiseWithin 1 n c.args.slots.now.entries) c.next.ensures.value c.next.ensures.rising) next)) i; room = c.args.dead.now.room }),
      (λ k less. refl),
      omega (arith, next, at_least_one c.args.slots.now (subst (λ n. RiseWithin 1 n c.args.slots.now.entries) c.next.ensures.value c.next.ensures.rising)),
    )

pub add-requires : goal.add-requires
add-requires c =
    let same : c.loop-h.dead.room ≡ c.args.dead.now.room = ap (λ (d : Ends). d.room) c.loop-h.invariant.0 in
    end_fits c.args.slots.now c.args.arrays c.loop-h.arrays (subst (λ n. RiseWithin 1 n c.args.slots.now.entries) c.next.ensures.value c.next.ensures.rising) c.loop-h.h c.loop-h.invariant.1 (omega (arith, c.loop-h-test.true)) c.loop-h.dead (ap (λ (d : Ends). d.list) c.loop-h.invariant.0) c.remove.result c.remove.ensures.value (sym c.is_there.ensures ∙ c.if-is_there.true) c.loop-h.dead.room (omega (arith, same, c.requires.room))

pub loop-h-preserved-then-is_there : goal.loop-h-preserved-then-is_there
loop-h-preserved-then-is_there c = (
  c.add.ensures
      ∙ (λ i. record {
        list = one_ends c.args.slots.now c.args.arrays c.loop-h.arrays (subst (λ n. RiseWithin 1 n c.args.slots.now.entries) c.next.ensures.value c.next.ensures.rising) c.loop-h.h c.loop-h.invariant.1 (omega (arith, c.loop-h-test.true)) c.loop-h.dead (ap (λ (d : Ends). d.list) c.loop-h.invariant.0) c.remove.result c.remove.ensures.value (sym c.is_there.ensures ∙ c.if-is_there.true) i;
        room = ap (λ (d : Ends). d.room) c.loop-h.invariant.0 i;
      }),
  (λ k less. c.remove.ensures.changes.others k (λ same. omega (arith, same, less)) ∙ c.loop-h.invariant.1 k (omega (arith, less))),
  omega (arith, c.loop-h-test.true),
)

pub loop-h-preserved : goal.loop-h-preserved
loop-h-preserved c = (
  (λ i. record {
    list = none_ends c.args.slots.now c.args.arrays c.loop-h.arrays (subst (λ n. RiseWithin 1 n c.args.slots.now.entries) c.next.ensures.value c.next.ensures.rising) c.loop-h.h c.loop-h.invariant.1 (omega (arith, c.loop-h-test.true)) c.loop-h.dead (ap (λ (d : Ends). d.list) c.loop-h.invariant.0) (sym c.is_there.ensures ∙ c.if-is_there.false) i;
    room = ap (λ (d : Ends). d.room) c.loop-h.invariant.0 i;
  }),
  (λ k less. c.loop-h.invariant.1 k (omega (arith, less))),
  omega (arith, c.loop-h-test.true),
)

pub returns : goal.returns
returns c =
    c.loop-h.invariant.0
    ∙ (λ i. record { list = all_ended c.args.slots.now c.args.arrays c.loop-h.h (subst (λ n. RiseWithin 1 n c.args.slots.now.entries) c.next.ensures.value c.next.ensures.rising) (omega (arith, c.loop-h-test.false)) i; room = c.args.dead.now.room })
