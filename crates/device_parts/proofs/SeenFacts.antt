-- A flight that a look showed to be over, with what was kept with it, and the runs that are left.
use Rattle.std.proofs.Common.{◌≡◌, ◌∙◌, ℕ, Bool, false, List, [], ◌∷◌, ◌++◌, Option, Some, None, length, refl, sym, ap, subst}
use Rattle.std.specs.Option.{IsSomeAnd}
use Rattle.std.proofs.lemmas.List.{length-map}
use Rattle.flight_books.specs.Kept.{AreBooks, Books, IsBooked, cargo_at}
use Rattle.flight_books.specs.declared.kept.Cargo.{Cargo}
use Rattle.flight_books.proofs.PairLaws.{ticket_booked}
use Rattle.frame_future.specs.Flights.{Flying, awaited, is_stopped, looked_at}
use Rattle.frame_future.specs.Future.{Future, flight_at}
use Rattle.frame_future.specs.Reads.{AreSeen, ended_by, left_by}
use Rattle.frame_future.specs.declared.phase.Ended.{Ended}
use Rattle.device_laws.specs.Flown.{Run, run_of, runs_of}
use Rattle.device_laws.proofs.FramesStandFacts.{none_ended, three}
use Rattle.device_laws.proofs.NoteFacts.{IsWithout, one_ended, wider}

abbrev ticket_first : List Flying → ℕ
ticket_first [] = 0
ticket_first (f ∷ fs) = f.ticket

abbrev stopped_first : List Flying → Bool
stopped_first [] = false
stopped_first (f ∷ fs) = is_stopped f

-- a look that showed no end leaves the runs
pub none_seen : (after : ℕ) (old new : Future) → AreSeen after old new None → runs_of new.flights ≡ runs_of old.flights
none_seen after old new s =
    ap runs_of s.flights ∙ three s.passed (left_by s.seen s.reads) s.behind
    ∙ ap (λ rs. runs_of s.passed ++ (rs ++ runs_of s.behind)) (none_ended s.seen s.reads s.read s.over.0)
    ∙ sym (three s.passed s.seen s.behind) ∙ sym (ap runs_of s.there)

-- what a look showed to be over, by the flight's run and what was kept with it
pub record IsOver {T : Type 0} (old : Books T) (left : List Flying) (e : Ended) (c : Cargo T) : Type 0 where
  pub run : Run
  pub without : IsWithout (runs_of old.future.flights) (runs_of left) run
  pub ticket : run.ticket ≡ e.ticket
  pub stopped : run.stopped ≡ e.left
  pub frame : run.frame ≡ c.frame
  pub cargo : c.ticket ≡ e.ticket

pub one_seen : {T : Type 0} (after : ℕ) (old : Books T) (new : Future) (e : Ended) (c : Cargo T) → AreBooks old → AreSeen after old.future new (Some e) → cargo_at old.cargo e.ticket ≡ Some c
    → IsOver old new.flights e c
one_seen {T} after old new e c books s is = by (flight_at old.future e.ticket) refl s.was
  where
    by : (o : Option Flying) → flight_at old.future e.ticket ≡ o → IsSomeAnd o (λ f. ended_by s.seen s.reads ≡ looked_at (awaited f) f ∷ []) → IsOver old new.flights e c
    by None found was = absurd was
    by (Some f) found was =
        let over = s.over in
        let same : f.ticket ≡ over.0.ticket = ap (λ fs. ticket_first fs) (sym was ∙ over.1) in
        let stops : is_stopped f ≡ is_stopped over.0 = ap (λ fs. stopped_first fs) (sym was ∙ over.1) in
        let booked : IsBooked f c = subst (λ o. IsSomeAnd o (IsBooked f)) is (ticket_booked old e.ticket f books found) in
        let w = wider (runs_of s.seen) (runs_of (left_by s.seen s.reads)) (run_of f) (runs_of s.passed) (runs_of s.behind) (one_ended s.seen s.reads (looked_at (awaited f) f) s.read was) in
        record {
          run = run_of f;
          without = record {
            before = w.before;
            behind = w.behind;
            there = ap runs_of s.there ∙ three s.passed s.seen s.behind ∙ w.there;
            rest = ap runs_of s.flights ∙ three s.passed (left_by s.seen s.reads) s.behind ∙ w.rest;
          };
          ticket = same ∙ sym over.3;
          stopped = stops ∙ sym over.4;
          frame = sym booked.frame;
          cargo = booked.ticket ∙ same ∙ sym over.3;
        }

-- as many runs are as many flights
pub seen_count : (old new : Future) → runs_of new.flights ≡ runs_of old.flights → length new.flights ≡ length old.flights
seen_count old new same = sym (length-map new.flights run_of) ∙ ap length same ∙ length-map old.flights run_of
