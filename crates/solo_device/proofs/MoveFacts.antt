-- What a call does to flights on which nobody has worked: one may begin, and one may be stopped.
use Rattle.std.proofs.Common.{◌≡◌, ◌∙◌, ℕ, List, Option, Some, None, refl, sym, ap, subst}
use Rattle.std.specs.Option.{option_map, option_map_or}
use Rattle.dev_types.specs.declared.handles.Channel.{Channel}
use Rattle.flight_books.specs.Kept.{Books}
use Rattle.frame_future.specs.Flights.{Flying, begun}
use Rattle.frame_future.specs.Future.{Finished, Future, IsDiscarded, flight_of, given_back, loan_ended, shown_by, with_picture}
use Rattle.frame_future.specs.Mapped.{Mapped}
use Rattle.seq_model.specs.Refusals.{phase_at}
use Rattle.seq_model.specs.State.{ticket_in}
use Rattle.seq_model.specs.Steps.{Past}
use Rattle.seq_model.specs.declared.calls.Call.{Call}
use Rattle.seq_model.specs.declared.calls.Call.TheVariants.{DiscardFrame, MapFrame, RenderFrame, UnmapFrame}
use Rattle.seq_model.specs.declared.calls.Reply.{Reply}
use Rattle.seq_model.specs.declared.calls.Reply.TheVariants as reply
use Rattle.device_laws.proofs.FramesStandFacts.{fewer_kept}
use Rattle.device_laws.specs.FramesStand.{without_pictures}
use Rattle.device_parts.specs.AllParts.{Inside}
use Rattle.device_parts.specs.Begins.{HasBegun, with_takeoff}
use Rattle.device_parts.specs.Discards.{HasDiscarded}
use Rattle.device_parts.specs.Makes.{IsMoved}
use Rattle.device_parts.specs.Maps.{HasMapped}
use Rattle.device_parts.specs.Unmaps.{HasUnmapped}
use Rattle.device_parts.specs.declared.loads.Load.{Load}
use Rattle.solo_device.specs.OneThread.{stopped_flight}
use Rattle.solo_device.specs.Untouched.{AreUntouched}
use Rattle.solo_device.proofs.BegunFacts.{all_push, begun_untouched}
use Rattle.solo_device.proofs.NoteFacts.{StopsAtMost, StopsOne}

-- the flights of the parts
abbrev flown : Inside → List Flying
flown i = i.flights.future.flights

-- what died takes no flight along
still_there : (books : Books Load) (s : Future) (dead : List ℕ) (new : Books Load) → new ≡ record books { future = without_pictures s dead } → new.future.flights ≡ s.flights
still_there books s dead new is = ap (λ (b : Books Load). b.future.flights) is ∙ (fewer_kept s dead).0

stays : (old new : Inside) → new.flights ≡ record old.flights { future = without_pictures old.flights.future new.objects.departed } → AreUntouched (flown old) → AreUntouched (flown new)
stays old new is all = subst AreUntouched (sym (still_there old.flights old.flights.future new.objects.departed new.flights is)) all

begins : (f : ℕ) (old new : Inside) → HasBegun f old new → AreUntouched (flown old) → AreUntouched (flown new)
begins f old new has all =
    let t = has.takeoff in
    subst AreUntouched (sym (still_there (with_takeoff t old.flights) (with_takeoff t old.flights).future new.objects.departed new.flights has.begins))
    (all_push (flown old) (begun t.cargo.ticket t.cargo.frame t.channels t.claims t.seat) all
    (begun_untouched t.cargo.ticket t.cargo.frame t.channels t.claims t.seat has.fresh has.in_time has.sized))

maps : (h : ℕ) (channel : Channel) (loan : Mapped) (old new : Inside) → HasMapped h channel loan old new → AreUntouched (flown old) → AreUntouched (flown new)
maps h channel loan old new has all =
    subst AreUntouched
    (sym (still_there has.flights has.flights.future new.objects.departed new.flights has.left ∙ ap (λ (b : Books Load). b.future.flights) has.lent.flights)) all

ended_same : (s : Future) (c : Channel) (found : Option Finished) → (option_map_or (λ p. with_picture s (given_back p c)) found s).flights ≡ s.flights
ended_same s c (Some p) = refl
ended_same s c None = refl

unmaps : (h number : ℕ) (old new : Inside) → HasUnmapped h number old new → AreUntouched (flown old) → AreUntouched (flown new)
unmaps h number old new has all =
    subst AreUntouched
    (sym (still_there old.flights (loan_ended old.flights.future h has.channel) new.objects.departed new.flights has.flights
    ∙ ended_same old.flights.future has.channel (shown_by old.flights.future h))) all

discards : (h : ℕ) (ticket : Option ℕ) (old new : Inside) → HasDiscarded h old new → AreUntouched (flown old)
    → option_map (λ f. f.ticket) (flight_of old.flights.future h) ≡ ticket → StopsAtMost ticket (flown old) (flown new)
discards h ticket old new has all told = by (flight_of old.flights.future h) refl has.is told
  where
    left : flown new ≡ has.discarded.flights
    left = ap (λ (s : Future). s.flights) has.left ∙ (fewer_kept has.discarded new.objects.departed).0

    by : (x : Option Flying) → flight_of old.flights.future h ≡ x → IsDiscarded h old.flights.future has.discarded x → option_map (λ f. f.ticket) x ≡ ticket → StopsAtMost ticket (flown old) (flown new)
    by None there is told = subst (λ t. StopsAtMost t (flown old) (flown new)) told (subst AreUntouched (sym (left ∙ ap (λ (s : Future). s.flights) is)) all)
    by (Some f) there is told =
        let one : StopsOne f.ticket (flown old) (flown new) = record {
          frame = h;
          before = f;
          halted = is.0;
          there = there;
          is = refl;
          stops = is.1;
          now = left ∙ ap (λ (s : Future). s.flights) is.2;
        } in
        subst (λ t. StopsAtMost t (flown old) (flown new)) told one

-- a call stops the flight that its reply says it stops, and no other
pub moved_flights : (past : Past) (call : Call) (r : Reply) (out : Option Mapped) (old new : Inside) → IsMoved call r out old new → AreUntouched (flown old)
    → ((h : ℕ) → option_map (λ f. f.ticket) (flight_of old.flights.future h) ≡ ticket_in (phase_at past h))
    → StopsAtMost (stopped_flight past call r) (flown old) (flown new)
moved_flights past (RenderFrame f) reply.Done out old new moved all told = begins f old new moved all
moved_flights past (RenderFrame f) r out old new moved all told = stays old new moved all
moved_flights past (MapFrame h channel) r (Some loan) old new moved all told = maps h channel loan old new moved all
moved_flights past (MapFrame h channel) r None old new moved all told = stays old new moved all
moved_flights past (DiscardFrame h) reply.Done out old new moved all told = discards h (ticket_in (phase_at past h)) old new moved all (told h)
moved_flights past (UnmapFrame h number) reply.Done out old new moved all told = unmaps h number old new moved all
moved_flights past call r out old new moved all told = stays old new moved all
