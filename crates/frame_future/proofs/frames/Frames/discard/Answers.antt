use Rattle.std.proofs.Common.{◌≡◌, ◌==◌, ◌<◌, true, length, sym, ap, subst, refl, ◌∙◌}
use Rattle.frame_future.specs.Flights.{Flying, is_stopped}
use Rattle.frame_future.specs.Future.{Future, flight_of, is_flight_of, phase_of}
use Rattle.frame_future.specs.contracts.frames.Frames.{the_view}
use Rattle.frame_future.proofs.Changes.{discarded_none, discarded_some, flight_kept, flight_seen, gone_phase, stopped_fewer, stopped_none, stopped_phase}
use Rattle.frame_future.proofs.Finds.{flight_here, if_of, not_second}
use Rattle.frame_future.proofs.Lists.{found_none}
use Rattle.frame_future.proofs.frames.Frames.discard.Goals as goal

pub stop-requires-clause-home : goal.stop-requires-clause-home
stop-requires-clause-home c =
    let s = c.args.self.now in
    let f = c.index_mut.result.now in
    let at = sym c.flight_of.ensures ∙ c.in-Some.is in
    let found = flight_here (the_view c.self.inside) s (is_flight_of c.args.frame) c.in-Some.place f c.self.view_is at c.index_mut.ensures.value in
    if_of (λ (h : Flying). h.home ≡ true) (flight_of s c.args.frame) f found.2 c.requires.home

pub stop-requires-clause-going : goal.stop-requires-clause-going
stop-requires-clause-going c =
    let s = c.args.self.now in
    let f = c.index_mut.result.now in
    let at = sym c.flight_of.ensures ∙ c.in-Some.is in
    let found = flight_here (the_view c.self.inside) s (is_flight_of c.args.frame) c.in-Some.place f c.self.view_is at c.index_mut.ensures.value in
    not_second (f.frame == c.args.frame) (is_stopped f) found.1

pub invariant_of-self : goal.invariant_of-self
invariant_of-self c =
    let s = c.args.self.now in
    let f = c.index_mut.result.now in
    let at = sym c.flight_of.ensures ∙ c.in-Some.is in
    let found = flight_here (the_view c.self.inside) s (is_flight_of c.args.frame) c.in-Some.place f c.self.view_is at c.index_mut.ensures.value in
    let g = c.stop.new.self in
    flight_kept (the_view c.self.inside) s _ (is_flight_of c.args.frame) c.in-Some.place f g c.self.view_is at c.index_mut.ensures.value
    (ap (λ (h : Flying). h.ticket) c.stop.ensures.now) (stopped_fewer f g (ap is_stopped c.stop.ensures.now)) c.self.invariant

pub returns-in-Some-clause-discarded : goal.returns-in-Some-clause-discarded
returns-in-Some-clause-discarded c =
    let s = c.args.self.now in
    let f = c.index_mut.result.now in
    let at = sym c.flight_of.ensures ∙ c.in-Some.is in
    let found = flight_here (the_view c.self.inside) s (is_flight_of c.args.frame) c.in-Some.place f c.self.view_is at c.index_mut.ensures.value in
    let g = c.stop.new.self in
    discarded_some c.args.frame s _ f g _ found.2 c.stop.ensures (flight_seen (the_view c.self.inside) s (is_flight_of c.args.frame) c.in-Some.place f g g c.self.view_is at c.index_mut.ensures.value refl)

pub returns-in-Some-clause-phase : goal.returns-in-Some-clause-phase
returns-in-Some-clause-phase c =
    let s = c.args.self.now in
    let f = c.index_mut.result.now in
    let at = sym c.flight_of.ensures ∙ c.in-Some.is in
    let found = flight_here (the_view c.self.inside) s (is_flight_of c.args.frame) c.in-Some.place f c.self.view_is at c.index_mut.ensures.value in
    let g = c.stop.new.self in
    let inside = the_view c.self.inside in
    let within : c.in-Some.place < length inside.flights = subst (λ (v : Future). c.in-Some.place < length v.flights) (sym c.self.view_is) found.0 in
    stopped_phase inside c.args.frame c.in-Some.place f g within c.index_mut.ensures.value found.1 (stopped_none g (ap is_stopped c.stop.ensures.now) c.args.frame) c.self.invariant.0

pub returns-in-None-clause-discarded : goal.returns-in-None-clause-discarded
returns-in-None-clause-discarded c =
    let s = c.args.self.now in
    let none = found_none (is_flight_of c.args.frame) s.flights (sym c.flight_of.ensures ∙ c.in-None.is) in
    discarded_none c.args.frame s _ _ none c.forget_picture.ensures

pub returns-in-None-clause-phase : goal.returns-in-None-clause-phase
returns-in-None-clause-phase c =
    let s = c.args.self.now in
    let none = found_none (is_flight_of c.args.frame) s.flights (sym c.flight_of.ensures ∙ c.in-None.is) in
    ap (λ (v : Future). phase_of v c.args.frame) c.forget_picture.ensures ∙ gone_phase s c.args.frame none
