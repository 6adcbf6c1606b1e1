use Rattle.std.proofs.Common.{◌≡◌, false, ap, ◌∙◌}
use Rattle.std.specs.Option.{is_some}
use Rattle.frame_future.specs.Flights.{Flying, is_stopped, IsOfFlight, IsWorked}
use Rattle.frame_future.specs.Future.{flight_at, has_ticket}
use Rattle.frame_future.specs.contracts.frames.Frames.{the_view}
use Rattle.frame_future.proofs.Changes.{flight_kept, flight_seen, same_fewer}
use Rattle.frame_future.proofs.Finds.{flight_here, if_some, some_of}
use Rattle.frame_future.proofs.frames.Frames.put_back.Goals as goal

-- what is asked of the claims and the seat
asked : (c : goal.After-index_mut) → let f = c.index_mut.result.now in (f.home ≡ false) × IsOfFlight f c.args.claims c.args.seat × IsWorked f c.args.seat
asked c =
    let s = c.args.self.now in
    let f = c.index_mut.result.now in
    let found = flight_here (the_view c.self.inside) s (has_ticket c.args.ticket) c.place_at-place.result f c.self.view_is c.place_at-place.ensures c.index_mut.ensures.value in
    some_of (λ (h : Flying). (h.home ≡ false) × IsOfFlight h c.args.claims c.args.seat × IsWorked h c.args.seat) (flight_at s c.args.ticket) f found.2 c.requires

pub put_back-requires-clause-same : goal.put_back-requires-clause-same
put_back-requires-clause-same c = (asked c).1

pub put_back-requires-clause-worked : goal.put_back-requires-clause-worked
put_back-requires-clause-worked c = (asked c).2

pub invariant_of-self : goal.invariant_of-self
invariant_of-self c =
    let s = c.args.self.now in
    let f = c.index_mut.result.now in
    let found = flight_here (the_view c.self.inside) s (has_ticket c.args.ticket) c.place_at-place.result f c.self.view_is c.place_at-place.ensures c.index_mut.ensures.value in
    let g = c.put_back.new.self in
    let same = c.put_back.ensures in
    let worked = (some_of (λ (h : Flying). (h.home ≡ false) × IsOfFlight h c.args.claims c.args.seat × IsWorked h c.args.seat) (flight_at s c.args.ticket) f found.2 c.requires).2 in
    flight_kept (the_view c.self.inside) s _ (has_ticket c.args.ticket) c.place_at-place.result f g c.self.view_is c.place_at-place.ensures c.index_mut.ensures.value
    (ap (λ (h : Flying). h.ticket) same) (same_fewer f g (ap (λ (h : Flying). h.frame) same) (ap is_stopped same ∙ ap is_some worked.stop)) c.self.invariant

pub returns : goal.returns
returns c =
    let s = c.args.self.now in
    let f = c.index_mut.result.now in
    let found = flight_here (the_view c.self.inside) s (has_ticket c.args.ticket) c.place_at-place.result f c.self.view_is c.place_at-place.ensures c.index_mut.ensures.value in
    if_some _ _ f found.2 (flight_seen (the_view c.self.inside) s (has_ticket c.args.ticket) c.place_at-place.result f c.put_back.new.self _ c.self.view_is c.place_at-place.ensures c.index_mut.ensures.value c.put_back.ensures)
