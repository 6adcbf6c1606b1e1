use Rattle.std.proofs.Common.{◌≤◌, ◌+◌, ◌^◌, All, length, take, subst, sym, arith}
use Rattle.std.proofs.lemmas.List.{take_more}
use Rattle.std.proofs.lemmas.List.Elements.{All-push}
use Rattle.object_store.specs.Kept.{number_at}
use Rattle.device_parts.proofs.holds.can_be_held.Goals as goal

pub loop-h-preserved : goal.loop-h-preserved
loop-h-preserved c =
    let reach = c.args.reach.now in
    let few : number_at c.args.store.now.holds c.h-item.result + length reach ≤ 2 ^ 40 = omega arith in
    subst (All (λ h. number_at c.args.store.now.holds h + length reach ≤ 2 ^ 40)) (sym (take_more reach c.loop-h.h-index c.h-item.result c.loop-h-test.true))
    (All-push (λ h. number_at c.args.store.now.holds h + length reach ≤ 2 ^ 40) (take c.loop-h.h-index reach) _ c.loop-h.invariant
    (subst (λ h. number_at c.args.store.now.holds h + length reach ≤ 2 ^ 40) c.h-item.is few))
