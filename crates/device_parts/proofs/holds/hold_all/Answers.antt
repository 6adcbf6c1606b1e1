use Rattle.std.proofs.Common.{◌<◌, ◌≤◌, ◌+◌, ◌^◌, length, take, subst, sym, arith}
use Rattle.std.proofs.lemmas.List.{length-take}
use Rattle.object_store.specs.Kept.{number_at}
use Rattle.object_steps.specs.Objects.{Objects}
use Rattle.device_parts.proofs.HoldFacts.{held_most}
use Rattle.device_parts.proofs.holds.hold_all.Goals as goal

pub hold-requires-clause-few : goal.hold-requires-clause-few
hold-requires-clause-few c =
    let most = held_most (take c.loop-h.h-index c.args.reach.now) c.args.objects.now.stored.holds c.h-item.result in
    let few = subst (λ h. number_at c.args.objects.now.stored.holds h + length c.args.reach.now ≤ 2 ^ 40) (sym c.h-item.is) (c.requires.few c.loop-h.h-index c.h-item.result c.loop-h-test.true) in
    let few_taken = length-take c.loop-h.h-index c.args.reach.now in
    let here = c.loop-h-test.true in
    subst (λ (o : Objects). number_at o.stored.holds c.h-item.result < 2 ^ 40) (sym c.loop-h.invariant) (omega (arith, most, few, here, few_taken))
