use Rattle.std.proofs.Common.{◌≡◌, true, ap, refl}
use Rattle.frame_future.specs.Flights.{Flying, is_stopped}
use Rattle.frame_future.specs.Future.{flight_at, has_ticket}
use Rattle.frame_future.specs.contracts.frames.Frames.{the_view}
use Rattle.frame_future.proofs.Changes.{flight_kept, flight_seen, same_fewer}
use Rattle.frame_future.proofs.Finds.{flight_here, if_some, some_of}
use Rattle.frame_future.proofs.frames.Frames.claimed.Goals as goal

pub claimed-requires : goal.claimed-requires
claimed-requires c =
    let s = c.args.self.now in
    let f = c.index_mut.result.now in
    let found = flight_here (the_view c.self.inside) s (has_ticket c.args.ticket) c.place_at-place.result f c.self.view_is c.place_at-place.ensures c.index_mut.ensures.value in
    some_of (λ (h : Flying). h.home ≡ true) (flight_at s c.args.ticket) f found.2 c.requires

pub invariant_of-self : goal.invariant_of-self
invariant_of-self c =
    let f = c.index_mut.result.now in
    let g = c.claimed.new.self in
    let same = c.claimed.ensures.now in
    flight_kept (the_view c.self.inside) c.args.self.now _ (has_ticket c.args.ticket) c.place_at-place.result f g c.self.view_is c.place_at-place.ensures c.index_mut.ensures.value
    (ap (λ (h : Flying). h.ticket) same) (same_fewer f g (ap (λ (h : Flying). h.frame) same) (ap is_stopped same)) c.self.invariant

pub returns : goal.returns
returns c =
    let s = c.args.self.now in
    let f = c.index_mut.result.now in
    let found = flight_here (the_view c.self.inside) s (has_ticket c.args.ticket) c.place_at-place.result f c.self.view_is c.place_at-place.ensures c.index_mut.ensures.value in
    let g = c.claimed.new.self in
    if_some _ _ f found.2 (g, c.claimed.ensures, flight_seen (the_view c.self.inside) s (has_ticket c.args.ticket) c.place_at-place.result f g g c.self.view_is c.place_at-place.ensures c.index_mut.ensures.value refl)
