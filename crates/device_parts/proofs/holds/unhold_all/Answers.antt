use Rattle.std.proofs.Common.{ap, Some, ◌∙◌, ◌≤◌, take, subst, sym, arith}
use Rattle.std.proofs.lemmas.Option.{slice_get-get_or}
use Rattle.object_store.specs.Kept.{number_at}
use Rattle.object_steps.specs.Objects.{Objects}
use Rattle.object_store.proofs.MoveFacts.{times_front}
use Rattle.device_parts.proofs.HoldFacts.{held_least}
use Rattle.device_parts.proofs.holds.unhold_all.Goals as goal

pub unhold-requires : goal.unhold-requires
unhold-requires c =
    let least = held_least (take c.loop-h.h-index c.args.reach.now) c.args.objects.now.stored.holds c.h-item.result in
    let held = c.requires.held c.h-item.result in
    let front = times_front c.args.reach.now c.loop-h.h-index c.h-item.result
    (slice_get-get_or c.args.reach.now c.loop-h.h-index c.h-item.result c.loop-h-test.true ∙ ap Some (sym c.h-item.is)) in
    subst (λ (o : Objects). 1 ≤ number_at o.stored.holds c.h-item.result) (sym c.loop-h.invariant) (omega (arith, least, held, front))
