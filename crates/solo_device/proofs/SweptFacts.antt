-- Sweeps of books whose flights nobody has worked on, but for one at most.
use Rattle.std.proofs.Common.{◌≡◌, ◌∙◌, ◌++◌, ℕ, Bool, List, [], ◌∷◌, Some, map, sym, ap, subst}
use Rattle.std.proofs.lemmas.List.{append-nil}
use Rattle.std.specs.List.{find}
use Rattle.std.specs.Option.{option_map}
use Rattle.flight_books.specs.Kept.{Books}
use Rattle.flight_books.specs.Sweeps.{IsSwept, note, note_of}
use Rattle.frame_future.specs.Flights.{Flying, is_stopped}
use Rattle.frame_future.specs.Future.{flight_of, is_flight_of, replaced}
use Rattle.frame_future.specs.Reads.{AreRead, ended_by, left_by}
use Rattle.seq_model.specs.Histories.{History}
use Rattle.solo_device.specs.Untouched.{AreUntouched, IsGiven}
use Rattle.solo_device.proofs.SweepFacts.{all_stay, none_ends, one_ends, others_stay, same_ticket, same_tickets}

module _ {T : Type 0} (old new : Books T) (before after : History) (swept : IsSwept old new before after) where
  -- nothing is noted
  pub nothing_noted : AreUntouched old.future.flights → after ≡ before
  nothing_noted all =
      swept.notes ∙ ap (λ fs. before ++ map note_of fs) (none_ends old.future.flights swept.reads all swept.looks) ∙ append-nil before

  pub still_untouched : AreUntouched old.future.flights → AreUntouched new.future.flights
  still_untouched all = subst AreUntouched (sym swept.flights) (all_stay old.future.flights swept.reads all swept.looks)

  pub tickets_stay : (h : ℕ) → AreUntouched old.future.flights
      → option_map (λ f. f.ticket) (flight_of new.future h) ≡ option_map (λ f. f.ticket) (flight_of old.future h)
  tickets_stay h all =
      ap (λ fs. option_map (λ (f : Flying). f.ticket) (find (is_flight_of h) fs)) swept.flights
      ∙ same_ticket h old.future.flights swept.reads all swept.looks

  pub all_tickets_stay : AreUntouched old.future.flights → map (λ f. f.ticket) new.future.flights ≡ map (λ f. f.ticket) old.future.flights
  all_tickets_stay all =
      ap (λ fs. map (λ (f : Flying). f.ticket) fs) swept.flights ∙ same_tickets old.future.flights swept.reads all swept.looks

  -- or the end of the one whose work is done
  module _ (p : Flying → Bool) (g f : Flying) (fs : List Flying) (given : IsGiven g) (all : AreUntouched fs) (there : find p fs ≡ Some f) (are : old.future.flights ≡ replaced p g fs) where
    looks : AreRead (replaced p g fs) swept.reads
    looks = subst (λ gs. AreRead gs swept.reads) are swept.looks

    pub one_noted : after ≡ before ++ note (is_stopped g) g.ticket ∷ []
    one_noted =
        swept.notes ∙ ap (λ gs. before ++ map note_of (ended_by gs swept.reads)) are
        ∙ ap (λ gs. before ++ map note_of gs) (one_ends p g given fs f swept.reads all there looks)

    pub rest_untouched : AreUntouched new.future.flights
    rest_untouched =
        subst AreUntouched (sym (swept.flights ∙ ap (λ gs. left_by gs swept.reads) are)) (others_stay p g given fs f swept.reads all there looks)
