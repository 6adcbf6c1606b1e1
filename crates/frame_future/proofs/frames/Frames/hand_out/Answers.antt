use Rattle.std.proofs.Common.{◌≡◌, true, Some, None, Ok, Err, Option, Result, ℕ, ap, refl, ◌∙◌}
use Rattle.dev_types.specs.declared.handles.NoMemory.{NoMemory}
use Rattle.tile_claims.specs.declared.seats.Claims.{Claims}
use Rattle.tile_claims.specs.declared.seats.Seat.{Seat}
use Rattle.frame_future.specs.Flights.{Flying, is_stopped}
use Rattle.frame_future.specs.Future.{asked_for, flight_at, has_ticket}
use Rattle.frame_future.specs.contracts.frames.Frames.{the_view}
use Rattle.frame_future.proofs.Changes.{flight_kept, flight_seen, same_fewer}
use Rattle.frame_future.proofs.Finds.{flight_here, if_some, some_of}
use Rattle.frame_future.proofs.frames.Frames.hand_out.Goals as goal

-- what stays of a flight that is asked for a seat
asked_ticket : (r : Result (Option (Claims × Seat)) NoMemory) (read : ℕ) (f : Flying) → (asked_for r read f).ticket ≡ f.ticket
asked_ticket (Ok (Some out)) read f = refl
asked_ticket (Ok None) read f = refl
asked_ticket (Err e) read f = refl

asked_frame : (r : Result (Option (Claims × Seat)) NoMemory) (read : ℕ) (f : Flying) → (asked_for r read f).frame ≡ f.frame
asked_frame (Ok (Some out)) read f = refl
asked_frame (Ok None) read f = refl
asked_frame (Err e) read f = refl

asked_stop : (r : Result (Option (Claims × Seat)) NoMemory) (read : ℕ) (f : Flying) → is_stopped (asked_for r read f) ≡ is_stopped f
asked_stop (Ok (Some out)) read f = refl
asked_stop (Ok None) read f = refl
asked_stop (Err e) read f = refl

pub hand_out-requires : goal.hand_out-requires
hand_out-requires c =
    let s = c.args.self.now in
    let f = c.index_mut.result.now in
    let found = flight_here (the_view c.self.inside) s (has_ticket c.args.ticket) c.place_at-place.result f c.self.view_is c.place_at-place.ensures c.index_mut.ensures.value in
    some_of (λ (h : Flying). h.home ≡ true) (flight_at s c.args.ticket) f found.2 c.requires

pub invariant_of-self : goal.invariant_of-self
invariant_of-self c =
    let f = c.index_mut.result.now in
    let g = c.hand_out.new.self in
    let out = c.hand_out.ensures in
    let same = out.now in
    flight_kept (the_view c.self.inside) c.args.self.now _ (has_ticket c.args.ticket) c.place_at-place.result f g c.self.view_is c.place_at-place.ensures c.index_mut.ensures.value
    (ap (λ (h : Flying). h.ticket) same ∙ asked_ticket c.hand_out.result out.read f)
    (same_fewer f g (ap (λ (h : Flying). h.frame) same ∙ asked_frame c.hand_out.result out.read f) (ap is_stopped same ∙ asked_stop c.hand_out.result out.read f)) c.self.invariant

pub returns : goal.returns
returns c =
    let s = c.args.self.now in
    let f = c.index_mut.result.now in
    let found = flight_here (the_view c.self.inside) s (has_ticket c.args.ticket) c.place_at-place.result f c.self.view_is c.place_at-place.ensures c.index_mut.ensures.value in
    let g = c.hand_out.new.self in
    if_some _ _ f found.2 (g, c.hand_out.ensures, flight_seen (the_view c.self.inside) s (has_ticket c.args.ticket) c.place_at-place.result f g g c.self.view_is c.place_at-place.ensures c.index_mut.ensures.value refl)
