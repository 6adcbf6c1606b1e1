use Rattle.std.proofs.Common.{◌≡◌, ◌∙◌, ap, sym, arith, [], length}
use Rattle.frame_future.specs.Future.{Future, nothing}
use Rattle.object_steps.specs.Objects.{tellable}
use Rattle.room_laws.proofs.LoanFacts.{starts}
use Rattle.seq_model.specs.Histories.{History}
use Rattle.seq_model.specs.Room.{loans_out}
use Rattle.seq_model.specs.Steps.{after}
use Rattle.device_parts.specs.AllParts.{AreParts, Inside}
use Rattle.device_core.specs.States.{owed}
use Rattle.device_core.proofs.states.DeviceState.new.Goals as goal

-- at first nothing is owed, and nobody is to be told of anything
none_lent : (i : Inside) → i.history ≡ [] → loans_out (after i.history).state ≡ 0
none_lent i empty = ap (λ (h : History). loans_out (after h).state) empty ∙ starts

none_owed : (i : Inside) → i.history ≡ [] → i.flights.future ≡ nothing → owed i ≡ 0
none_owed i empty none =
    let entries = ap (λ (h : History). length h) empty in
    let flights = ap (λ (s : Future). length s.flights) none in
    omega (arith, entries, flights)

none_tellable : (i : Inside) → AreParts i → i.history ≡ [] → tellable i.objects.stored.state ≡ 0
unfolding after
none_tellable i parts empty = ap tellable (parts.rest.state ∙ ap (λ (h : History). (after h).state) empty)

pub invariant_of-result : goal.invariant_of-result
invariant_of-result g c =
    let i = c.in-Ok.parts in
    let owed_none = none_owed i c.in-Ok.ensures.history c.in-Ok.ensures.flights in
    let told_none = none_tellable i c.are_parts.ensures c.in-Ok.ensures.history in
    let some = c.requires.some in (
      record {
        all_told = c.in-Ok.ensures.objects;
        spare = omega (arith, told_none);
        counted = omega (arith, told_none);
        within = omega (arith, owed_none, some);
        limit = c.requires.few;
        stands = λ going. c.in-Ok.ensures.stands;
      },
      sym (none_lent i c.in-Ok.ensures.history),
    )
