use Rattle.std.proofs.Common.{◌≡◌, ◌<◌, true, length, sym, subst, arith, ◌∙◌}
use Rattle.frame_future.specs.Flights.{Flying}
use Rattle.frame_future.proofs.Endings.{ends_at, same_at}
use Rattle.frame_future.proofs.frames.first_ended.Goals as goal

pub look_above-requires : goal.look_above-requires
look_above-requires c =
    let f = c.index_mut.result.now in
    let old = c.args.flights.now.items in
    let place = c.loop-place.place in
    let inv = c.loop-place.invariant in
    let within : place < length old = omega (arith, c.loop-place-test.true, c.len-place-end.ensures) in
    subst (λ (h : Flying). h.home ≡ true) (sym (c.index_mut.ensures.value ∙ same_at c.loop-place.flights.items old place f inv.2)) (c.requires place f within)

pub returns-then-look_above-clause-ended : goal.returns-then-look_above-clause-ended
returns-then-look_above-clause-ended c =
    let f = c.index_mut.result.now in
    let old = c.args.flights.now.items in
    let place = c.loop-place.place in
    let inv = c.loop-place.invariant in
    let within : place < length old = omega (arith, c.loop-place-test.true, c.len-place-end.ensures) in
    ends_at c.args.after old c.loop-place.flights.items place f c.look_above.new.flight within inv.0 inv.2 c.index_mut.ensures.value inv.3 (c.look_above.ensures.ends c.if-look_above.true)
