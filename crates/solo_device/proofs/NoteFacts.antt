-- What the sweep behind a call notes, where nobody has worked on a flight: that which the call stopped, if it stopped one.
use Rattle.std.proofs.Common.{◌≡◌, ◌∙◌, ◌++◌, ℕ, Bool, List, [], ◌∷◌, Option, Some, None, ap}
use Rattle.std.specs.List.{find}
use Rattle.std.specs.Option.{is_some}
use Rattle.device_laws.proofs.StandingFacts.{found}
use Rattle.flight_books.specs.Kept.{Books}
use Rattle.flight_books.specs.Sweeps.{IsSwept, note}
use Rattle.frame_future.specs.Flights.{Flying}
use Rattle.frame_future.specs.Future.{IsStop, is_flight_of, replaced}
use Rattle.seq_model.proofs.Afters.{after_more}
use Rattle.seq_model.specs.Histories.{History}
use Rattle.seq_model.specs.Steps.{after}
use Rattle.seq_model.specs.declared.calls.Entry.{Entry}
use Rattle.seq_model.specs.declared.calls.Entry.TheVariants.{Finished, Left}
use Rattle.solo_device.specs.OneThread.{with_note}
use Rattle.solo_device.specs.Untouched.{AreUntouched, IsGiven, IsUntouched}
use Rattle.solo_device.proofs.StopFacts.{stopped_given, stopped_told}
use Rattle.solo_device.proofs.SweptFacts.{nothing_noted, one_noted, rest_untouched, still_untouched}

-- of these flights the one with this ticket was stopped
pub record StopsOne (ticket : ℕ) (fs gs : List Flying) : Type 0 where
  pub frame : ℕ
  pub before : Flying
  pub halted : Flying
  pub there : find (is_flight_of frame) fs ≡ Some before
  pub is : before.ticket ≡ ticket
  pub stops : IsStop before halted
  pub now : gs ≡ replaced (is_flight_of frame) halted fs

-- or nobody has worked on any, as before
abbrev pub StopsAtMost : Option ℕ → List Flying → List Flying → Type 0
StopsAtMost None fs gs = AreUntouched gs
StopsAtMost (Some t) fs gs = StopsOne t fs gs

found_untouched : (p : Flying → Bool) (fs : List Flying) (f : Flying) → AreUntouched fs → find p fs ≡ Some f → IsUntouched f
found_untouched p fs f all there = (found IsUntouched p fs f all there).0

module _ {T : Type 0} (old new : Books T) (before now : History) (swept : IsSwept old new before now) where
  pub stopped_noted : (stopped : Option ℕ) (fs : List Flying) → AreUntouched fs → StopsAtMost stopped fs old.future.flights
      → (after now ≡ with_note Left stopped (after before)) × AreUntouched new.future.flights
  stopped_noted None fs all stays = (ap after (nothing_noted old new before now swept stays), still_untouched old new before now swept stays)
  stopped_noted (Some t) fs all s =
      let u = found_untouched (is_flight_of s.frame) fs s.before all s.there in
      let given = stopped_given s.before s.halted u s.stops in
      let told = stopped_told s.before s.halted s.stops in (
        ap after (one_noted old new before now swept (is_flight_of s.frame) s.halted s.before fs given all s.there s.now)
            ∙ ap (λ (e : Entry). after (before ++ e ∷ [])) (λ i. note (told.0 i) ((told.1 ∙ s.is) i))
            ∙ after_more before (Left t),
        rest_untouched old new before now swept (is_flight_of s.frame) s.halted s.before fs given all s.there s.now,
      )

-- and the sweep behind the work on a flight notes that it has finished
module _ {T : Type 0} (old new : Books T) (before now : History) (swept : IsSwept old new before now)
    (p : Flying → Bool) (fs : List Flying) (f g : Flying) (all : AreUntouched fs) (there : find p fs ≡ Some f) (given : IsGiven g) (going : g.view.stop ≡ None)
    (ticket : g.ticket ≡ f.ticket) (are : old.future.flights ≡ replaced p g fs) where
  pub finished_noted : after now ≡ with_note Finished (Some f.ticket) (after before)
  finished_noted =
      ap after (one_noted old new before now swept p g f fs given all there are)
      ∙ ap (λ (e : Entry). after (before ++ e ∷ [])) (λ i. note (is_some (going i)) (ticket i))
      ∙ after_more before (Finished f.ticket)

  pub finished_rest : AreUntouched new.future.flights
  finished_rest = rest_untouched old new before now swept p g f fs given all there are
