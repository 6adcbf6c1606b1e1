-- A flight is lent, rendered by one thread, and comes back; the next sweep notes that it has finished.
use Rattle.std.proofs.Common.{◌≡◌, ◌∙◌, ℕ, true, false, List, Some, None, length, refl, sym, ap, subst}
use Rattle.std.specs.Option.{option_map}
use Rattle.std.proofs.lemmas.Bool.{eq-eqb}
use Rattle.device_laws.proofs.StandingFacts.{found}
use Rattle.flight_books.proofs.PairLaws.{lent_home}
use Rattle.frame_future.specs.Flights.{Flying, IsOfFlight, away, back}
use Rattle.frame_future.specs.Future.{AreHome, Future, IsKept, flight_at, flight_of, has_ticket, is_flight_of, replaced, with_flight_at}
use Rattle.seq_model.specs.Pictures.{scene_at}
use Rattle.seq_model.specs.Refusals.{phase_at}
use Rattle.seq_model.specs.State.{ticket_in}
use Rattle.seq_model.specs.Steps.{after}
use Rattle.seq_model.specs.declared.calls.Entry.TheVariants.{Finished}
use Rattle.tile_claims.specs.Parts.{scene_of, tiles_of}
use Rattle.tile_claims.specs.Seats.{IsSameSeat, IsSeatOf, key_of, view}
use Rattle.tile_claims.specs.Views.{IsAlone}
use Rattle.world_snapshot.specs.Works.{scene_of_work}
use Rattle.world_snapshot.specs.declared.works.Work.{Work}
use Rattle.device_parts.proofs.LookedFacts.{found_by_ticket}
use Rattle.device_parts.proofs.TicketFacts.{ticket_told}
use Rattle.device_parts.specs.AllParts.{AreParts, Inside}
use Rattle.device_parts.specs.Lends.{HasLentFlight, HasReturned, IsLentFlight}
use Rattle.device_parts.specs.Standing.{IsStanding}
use Rattle.device_parts.specs.Sweeps.{HasSwept, showing}
use Rattle.solo_device.specs.OneThread.{with_note}
use Rattle.solo_device.specs.Untouched.{AreUntouched, IsUntouched}
use Rattle.solo_device.proofs.NoteFacts.{finished_noted, finished_rest}
use Rattle.solo_device.proofs.WorkFacts.{all_given, not_stopped, of_flight, replaced_again, was_worked}

abbrev flown : Inside → List Flying
flown i = i.flights.future.flights

-- where no flight is lent of a frame, the history tells of none
pub none_told : (i : Inside) (h : ℕ) → AreParts i → IsStanding i → flight_of i.flights.future h ≡ None → ticket_in (phase_at (after i.history) h) ≡ None
none_told i h parts stands none = sym (ticket_told i h parts stands) ∙ ap (option_map (λ (f : Flying). f.ticket)) none

module _ (h : ℕ) (old lent : Inside) (work : Work) (has : HasLentFlight h old lent work) (all : AreUntouched (flown old)) (home : AreHome old.flights.future) (kept : IsKept old.flights.future) where
  abbrev f : Flying
  f = has.flight

  untouched : IsUntouched f
  untouched = (found IsUntouched (is_flight_of h) (flown old) f all has.there).0

  -- the flight can be rendered by whoever has its work
  pub is_seat : IsSeatOf work.claims work.seat
  is_seat = has.claims.seat

  pub is_alone : IsAlone (view work.seat)
  is_alone = (ap (λ v. v.first) has.seat ∙ untouched.alone.0, ap (λ v. v.splits) has.seat ∙ untouched.alone.1)

  pub is_idle : (view work.seat).opened ≡ None
  is_idle = ap (λ v. v.opened) has.seat ∙ untouched.idle

  pub is_in_time : (view work.seat).late ≡ false
  is_in_time = ap (λ v. v.late) has.seat ∙ untouched.in_time

  pub is_going : (view work.seat).stop ≡ None
  is_going = ap (λ v. v.stop) has.seat ∙ untouched.going

  there_at : flight_at old.flights.future f.ticket ≡ Some f
  there_at = found_by_ticket (is_flight_of h) (flown old) f kept.rising has.there

  -- its work is done
  module _ (done : Work) (rest : done ≡ record work { seat = done.seat }) (seat : IsSeatOf done.claims done.seat × IsSameSeat work.seat done.seat)
      (now : view done.seat ≡ record (view work.seat) { given = (view done.seat).given; late = true })
      (given : length (view done.seat).given ≡ tiles_of (key_of done.claims)) where
    abbrev returns_as : Flying
    returns_as = back done.seat (away f)

    is_of : IsOfFlight f done.claims work.seat
    is_of = subst (λ (w : Work). IsOfFlight f w.claims work.seat) (sym rest) has.claims

    comes_home : (flight_at (with_flight_at old.flights.future f.ticket (away f)) f.ticket ≡ Some (away f)) × AreHome (with_flight_at (with_flight_at old.flights.future f.ticket (away f)) f.ticket returns_as)
    comes_home = lent_home old.flights.future f.ticket f returns_as home there_at refl

    there_lent : flight_at lent.flights.future f.ticket ≡ Some (away f)
    there_lent = ap (λ (s : Future). flight_at s f.ticket) has.away ∙ comes_home.0

    pub is_lent : IsLentFlight lent done
    is_lent = record {
      flight = away f;
      there = there_lent;
      away = refl;
      others = subst AreHome (ap (λ (s : Future). with_flight_at s f.ticket returns_as) (sym has.away)) comes_home.1;
      claims = of_flight f done.claims work.seat done.seat untouched is_of has.seat seat.0 seat.1 now given;
      worked = was_worked f done.claims work.seat done.seat untouched is_of has.seat seat.0 seat.1 now given;
      key = subst (λ (w : Work). scene_of (key_of w.claims) ≡ scene_of_work w) (sym rest) has.key;
      scene = ap scene_of_work rest ∙ has.scene ∙ ap (λ (i : Inside). scene_at i.history f.ticket) (sym has.rest);
    }

    -- and is back
    module _ (back_ : Inside) (returned : HasReturned lent back_ done) where
      flights_back : flown back_ ≡ replaced (has_ticket f.ticket) returns_as (flown old)
      flights_back =
          ap (λ (s : Future). s.flights) (returned.flight (away f) there_lent refl)
          ∙ ap (λ (s : Future). replaced (has_ticket f.ticket) returns_as s.flights) has.away
          ∙ replaced_again (has_ticket f.ticket) (away f) returns_as (flown old) (eq-eqb f.ticket f.ticket refl)

      history_back : back_.history ≡ old.history
      history_back = ap (λ (i : Inside). i.history) returned.rest ∙ ap (λ (i : Inside). i.history) has.rest

      module _ (new : Inside) (swept : HasSwept back_ new) (parts : AreParts old) (stands : IsStanding old) where
        told_ticket : Some f.ticket ≡ ticket_in (phase_at (after old.history) h)
        told_ticket = sym (ap (option_map (λ (g : Flying). g.ticket)) has.there) ∙ ticket_told old h parts stands

        pub finished_past : after new.history ≡ with_note Finished (ticket_in (phase_at (after old.history) h)) (after old.history)
        finished_past =
            finished_noted back_.flights (showing swept.pictures new.flights) back_.history new.history swept.flights
            (has_ticket f.ticket) (flown old) f returns_as all there_at
            (all_given f done.claims work.seat done.seat untouched is_of has.seat seat.0 seat.1 now given)
            (not_stopped f done.claims work.seat done.seat untouched is_of has.seat seat.0 seat.1 now given) refl flights_back
            ∙ (λ i. with_note Finished (told_ticket i) (after (history_back i)))

        pub finished_untouched : AreUntouched (flown new)
        finished_untouched =
            finished_rest back_.flights (showing swept.pictures new.flights) back_.history new.history swept.flights
            (has_ticket f.ticket) (flown old) f returns_as all there_at
            (all_given f done.claims work.seat done.seat untouched is_of has.seat seat.0 seat.1 now given)
            (not_stopped f done.claims work.seat done.seat untouched is_of has.seat seat.0 seat.1 now given) refl flights_back
