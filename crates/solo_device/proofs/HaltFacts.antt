-- All flights are stopped, on which nobody has worked: a sweep notes each, and leaves none.
use Rattle.std.proofs.Common.{◌≡◌, ◌∙◌, ◌++◌, ℕ, true, cond, List, [], ◌∷◌, map, refl, ap, subst}
use Rattle.std.proofs.lemmas.Bool.{eq-eqb}
use Rattle.std.specs.Option.{is_some}
use Rattle.flight_books.specs.Kept.{Books}
use Rattle.flight_books.specs.Stops.{AreHalted, HaltsBy, StopsAll}
use Rattle.flight_books.specs.Sweeps.{IsSwept, note, note_of}
use Rattle.frame_future.specs.Flights.{Flying, awaited, is_stopped, looked_at}
use Rattle.frame_future.specs.Future.{IsStop}
use Rattle.frame_future.specs.Reads.{AreRead, IsRead, ended_by, is_end, left_by}
use Rattle.seq_model.specs.Histories.{History}
use Rattle.seq_model.specs.declared.calls.Entry.TheVariants.{Left}
use Rattle.solo_device.specs.Untouched.{AreUntouched, IsGiven, IsUntouched}
use Rattle.solo_device.proofs.StopFacts.{stopped_given, stopped_told}

-- each was stopped now
stopped_here : (f g : Flying) → IsUntouched f → HaltsBy (is_stopped f) f g → IsStop f g
stopped_here f g u halts = subst (λ b. HaltsBy b f g) (ap is_some u.going) halts

-- and ends by the next look
over : (g : Flying) (r : ℕ) → IsGiven g → IsRead g r → is_end g r ≡ true
over g r given read = eq-eqb r (awaited g) (read.alone given.alone ∙ given.all)

note_here : (f g : Flying) (r : ℕ) → IsUntouched f → IsStop f g → note_of (looked_at r g) ≡ Left f.ticket
note_here f g r u stop = let told = stopped_told f g stop in (λ i. note (told.0 i) (told.1 i))

pub none_is_left : (fs gs : List Flying) (reads : List ℕ) → AreUntouched fs → AreHalted fs gs → AreRead gs reads → left_by gs reads ≡ []
none_is_left [] [] [] all halted read = refl
none_is_left [] [] (r ∷ reads) all halted read = refl
none_is_left [] (g ∷ gs) reads all halted read = absurd halted
none_is_left (f ∷ fs) [] reads all halted read = absurd halted
none_is_left (f ∷ fs) (g ∷ gs) [] all halted read = absurd read
none_is_left (f ∷ fs) (g ∷ gs) (r ∷ reads) all halted read =
    ap (λ b. cond b (left_by gs reads) (looked_at r g ∷ left_by gs reads)) (over g r (stopped_given f g all.0 (stopped_here f g all.0 halted.0)) read.0)
    ∙ none_is_left fs gs reads all.1 halted.1 read.1

pub all_leave : (fs gs : List Flying) (reads : List ℕ) → AreUntouched fs → AreHalted fs gs → AreRead gs reads
    → map note_of (ended_by gs reads) ≡ map (λ f. Left f.ticket) fs
all_leave [] [] [] all halted read = refl
all_leave [] [] (r ∷ reads) all halted read = refl
all_leave [] (g ∷ gs) reads all halted read = absurd halted
all_leave (f ∷ fs) [] reads all halted read = absurd halted
all_leave (f ∷ fs) (g ∷ gs) [] all halted read = absurd read
all_leave (f ∷ fs) (g ∷ gs) (r ∷ reads) all halted read =
    let stop = stopped_here f g all.0 halted.0 in
    ap (λ b. map note_of (cond b (looked_at r g ∷ ended_by gs reads) (ended_by gs reads))) (over g r (stopped_given f g all.0 stop) read.0)
    ∙ (λ i. note_here f g r all.0 stop i ∷ all_leave fs gs reads all.1 halted.1 read.1 i)

module _ {T : Type 0} (first old new : Books T) (before after : History) (all : AreUntouched first.future.flights) (stops : StopsAll first old) (swept : IsSwept old new before after) where
  pub all_noted : after ≡ before ++ map (λ f. Left f.ticket) first.future.flights
  all_noted = swept.notes ∙ ap (λ l. before ++ l) (all_leave first.future.flights old.future.flights swept.reads all stops.flights swept.looks)

  pub all_gone : new.future.flights ≡ []
  all_gone = swept.flights ∙ none_is_left first.future.flights old.future.flights swept.reads all stops.flights swept.looks
