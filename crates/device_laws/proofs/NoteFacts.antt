-- What is kept of frames where the flight that a look showed to be over is noted.
use Rattle.std.proofs.Common.{ℕ, ◌≡◌, ◌∙◌, inr, not, Bool, true, false, List, [], ◌∷◌, ◌++◌, append_assoc, Some, map, refl, sym, ap, subst}
use Rattle.std.specs.Prelude.{cond}
use Rattle.std.proofs.lemmas.Bool.{or_left}
use Rattle.std.proofs.lemmas.List.{map-append}
use Rattle.std.proofs.lemmas.List.Elements.{filter-append}
use Rattle.flight_books.specs.Sweeps.{note_of_end}
use Rattle.frame_future.specs.Flights.{Flying, is_stopped, looked_at}
use Rattle.frame_future.specs.Future.{Future, Rising, finished}
use Rattle.frame_future.specs.Reads.{AreRead, AreSeen, ended_by, is_end, left_by, pictures_of}
use Rattle.frame_future.specs.declared.phase.Ended.{Ended}
use Rattle.past_laws.proofs.OpenFacts.{follow_more}
use Rattle.past_laws.specs.Open.{IsOpen}
use Rattle.seq_model.specs.Histories.{History}
use Rattle.seq_model.specs.Legal.{Legal}
use Rattle.seq_model.specs.Life.{has}
use Rattle.seq_model.specs.Refusals.{phase_at}
use Rattle.seq_model.specs.State.{Flight}
use Rattle.seq_model.specs.Steps.{after}
use Rattle.seq_model.specs.declared.calls.Entry.TheVariants.{Called, Finished as FinishedAt, Left}
use Rattle.device_laws.proofs.FlownFacts.{joined, middle}
use Rattle.device_laws.proofs.FramesStandFacts.{none_ended, seen_shows, stands_without, three}
use Rattle.device_laws.proofs.LentFacts.{ended_lent, others_lent}
use Rattle.device_laws.proofs.PhaseFacts.{flying_phase}
use Rattle.device_laws.proofs.RenderFacts.{renders_stay}
use Rattle.device_laws.proofs.StandingSteps.{note_stands, there_if}
use Rattle.device_laws.proofs.SweepFacts.{apart_middle, rising_apart, run_flies, tickets_of_runs, AreApart}
use Rattle.device_laws.specs.Flown.{Flown, IsRun, Run, note_of_run, run_of, runs_of, tickets_in}
use Rattle.device_laws.specs.FramesStand.{FramesStand, LeavesBut, without_pictures}
use Rattle.device_laws.specs.Lent.{AreLent, IsLent, moves_channels}
use Rattle.device_laws.specs.Renders.{Renders}
use Rattle.device_laws.specs.Standing.{AreLeft, LeavesPicturesBy, Standing, pictures_left}

-- runs among which one ended, and those that are left
pub record IsWithout (runs left : List Run) (r : Run) : Type 0 where
  pub before : List Run
  pub behind : List Run
  pub there : runs ≡ before ++ r ∷ behind
  pub rest : left ≡ before ++ behind

abbrev pub first_of : Flying → List Flying → Flying
first_of d [] = d
first_of d (f ∷ fs) = f

abbrev rest_of : List Flying → List Flying
rest_of [] = []
rest_of (f ∷ fs) = fs

pub one_ended : (fs : List Flying) (reads : List ℕ) (g : Flying) → AreRead fs reads → ended_by fs reads ≡ g ∷ [] → IsWithout (runs_of fs) (runs_of (left_by fs reads)) (run_of g)
one_ended [] [] g read one = absurd cc
one_ended [] (x ∷ reads) g read one = absurd read
one_ended (f ∷ fs) [] g read one = absurd read
one_ended (f ∷ fs) (x ∷ reads) g read one = by (is_end f x) one (one_ended fs reads g read.1)
  where
    by : (b : Bool) → cond b (looked_at x f ∷ ended_by fs reads) (ended_by fs reads) ≡ g ∷ [] → (ended_by fs reads ≡ g ∷ [] → IsWithout (runs_of fs) (runs_of (left_by fs reads)) (run_of g)) →
        IsWithout (run_of f ∷ runs_of fs) (runs_of (cond b (left_by fs reads) (looked_at x f ∷ left_by fs reads))) (run_of g)
    by true one rest = record {
      before = [];
      behind = runs_of fs;
      there = ap (λ gs. run_of (first_of f gs) ∷ runs_of fs) one;
      rest = none_ended fs reads read.1 (ap rest_of one);
    }
    by false one rest =
        let more : IsWithout (runs_of fs) (runs_of (left_by fs reads)) (run_of g) = rest one in
        record {
          before = run_of f ∷ more.before;
          behind = more.behind;
          there = ap (λ rs. run_of f ∷ rs) more.there;
          rest = ap (λ rs. run_of f ∷ rs) more.rest;
        }

-- more runs before and behind
pub wider : (runs left : List Run) (r : Run) (passed more : List Run) → IsWithout runs left r → IsWithout (passed ++ (runs ++ more)) (passed ++ (left ++ more)) r
wider runs left r passed more w = record {
  before = passed ++ w.before;
  behind = w.behind ++ more;
  there = ap (λ rs. passed ++ (rs ++ more)) w.there ∙ ap (λ rs. passed ++ rs) (append_assoc w.before (r ∷ w.behind) more) ∙ sym (append_assoc passed w.before (r ∷ (w.behind ++ more)));
  rest = ap (λ rs. passed ++ (rs ++ more)) w.rest ∙ ap (λ rs. passed ++ rs) (append_assoc w.before w.behind more) ∙ sym (append_assoc passed w.before (w.behind ++ more));
}

-- the note of a run
quiet : (t : ℕ) (b : Bool) → moves_channels (cond b (Left t) (FinishedAt t)) ≡ false
quiet t true = refl
quiet t false = refl

open_noted : (history : History) (t : ℕ) (b : Bool) → has t (after history).state.stopped ≡ b → IsOpen history → IsOpen (history ++ cond b (Left t) (FinishedAt t) ∷ [])
open_noted history t true stops open_ actor call r = follow_more history (Left t) (Called actor call r) (open_ actor call r) (or_left (has t (after history).state.stopped) false stops)
open_noted history t false stops open_ actor call r = follow_more history (FinishedAt t) (Called actor call r) (open_ actor call r) refl

-- a flight f among others that is noted
module _ (history : History) (old : Future) (f : Flying) (before behind : List Run) (flown : Flown history (before ++ run_of f ∷ behind)) (standing : Standing history (before ++ run_of f ∷ behind) old.pictures) where
  stops : has f.ticket (after history).state.stopped ≡ is_stopped f
  stops = middle (λ r. has r.ticket (after history).state.stopped ≡ r.stopped) before (run_of f) behind standing.stopped

  leaves_pictures : (b : Bool) → LeavesPicturesBy b (run_of f) (cond b [] (finished f ∷ []))
  leaves_pictures true = tt
  leaves_pictures false = (refl, refl)

  ended_are_lent : (left : ℕ → Bool) (b : Bool) → is_stopped f ≡ b → Legal history → AreLeft history (note_of_run (run_of f)) left →
      AreLent (history ++ note_of_run (run_of f) ∷ []) (pictures_left left (cond b [] (finished f ∷ [])))
  ended_are_lent left true is legal leaves = tt
  ended_are_lent left false is legal leaves = by (left f.frame) refl
    where
      shows : phase_at (after history) f.frame ≡ Flight f.ticket
      shows = flying_phase history f.ticket f.frame (run_flies history before (run_of f) behind flown) (stops ∙ is) (middle (IsRun history) before (run_of f) behind flown.each).frame

      by : (b : Bool) → left f.frame ≡ b → AreLent (history ++ note_of_run (run_of f) ∷ []) (cond b (finished f ∷ []) [])
      by false goes = tt
      by true stays = (
        ended_lent history (note_of_run (run_of f)) f.frame f.ticket (finished f) legal (quiet f.ticket (is_stopped f)) (sym (leaves f.frame (there_if (after history) f.frame f.ticket (inr shows))) ∙ stays) shows refl refl,
        tt,
      )

  noted_lent : (left : ℕ → Bool) → Legal history → AreLeft history (note_of_run (run_of f)) left → AreLent history old.pictures →
      AreLent (history ++ note_of_run (run_of f) ∷ []) (pictures_left left (old.pictures ++ pictures_of (f ∷ [])))
  noted_lent left legal leaves lent =
      subst (AreLent (history ++ note_of_run (run_of f) ∷ [])) (sym (filter-append (λ p. left p.frame) old.pictures (pictures_of (f ∷ []))))
      (joined (IsLent (history ++ note_of_run (run_of f) ∷ [])) (pictures_left left old.pictures) (pictures_left left (pictures_of (f ∷ [])))
      (others_lent history (note_of_run (run_of f)) left old.pictures (quiet f.ticket (is_stopped f)) leaves standing.shown lent)
      (ended_are_lent left (is_stopped f) refl legal leaves))

  noted : (looked : Future) (dead : List ℕ) → Legal history → has f.ticket (tickets_in (before ++ behind)) ≡ false → LeavesBut history (note_of_run (run_of f)) dead → IsOpen history → AreLent history old.pictures →
      runs_of looked.flights ≡ before ++ behind → looked.pictures ≡ old.pictures ++ pictures_of (f ∷ []) → Renders (history ++ note_of_run (run_of f) ∷ []) looked →
      FramesStand (history ++ note_of_run (run_of f) ∷ []) (without_pictures looked dead)
  noted looked dead legal apart leaves open_ lent runs pictures shows =
      stands_without (history ++ note_of_run (run_of f) ∷ []) looked dead
      (open_noted history f.ticket (is_stopped f) stops open_)
      (subst (λ rs. Standing (history ++ note_of_run (run_of f) ∷ []) rs (pictures_left (λ h. not (has h dead)) looked.pictures)) (sym runs)
      (subst (λ ps. Standing (history ++ note_of_run (run_of f) ∷ []) (before ++ behind) (pictures_left (λ h. not (has h dead)) ps)) (sym pictures)
      (note_stands history before (run_of f) behind (λ h. not (has h dead)) old.pictures (pictures_of (f ∷ [])) apart (leaves_pictures (is_stopped f)) leaves flown standing)))
      shows
      (subst (λ ps. AreLent (history ++ note_of_run (run_of f) ∷ []) (pictures_left (λ h. not (has h dead)) ps)) (sym pictures) (noted_lent (λ h. not (has h dead)) legal leaves lent))

-- the flight that a look showed to be over, its note, and the runs that are left
module _ (last : ℕ) (old looked : Future) (e : Ended) (s : AreSeen last old looked (Some e)) where
  abbrev pub ended : Flying
  ended = s.over.0

  pub ended_note : note_of_run (run_of ended) ≡ note_of_end e
  ended_note = ap (λ b. cond b (Left ended.ticket) (FinishedAt ended.ticket)) (sym s.over.4) ∙ ap (λ t. cond e.left (Left t) (FinishedAt t)) (sym s.over.3)

  pub ended_without : IsWithout (runs_of old.flights) (runs_of looked.flights) (run_of ended)
  ended_without =
      let w : IsWithout (runs_of s.passed ++ (runs_of s.seen ++ runs_of s.behind)) (runs_of s.passed ++ (runs_of (left_by s.seen s.reads) ++ runs_of s.behind)) (run_of ended) =
      wider (runs_of s.seen) (runs_of (left_by s.seen s.reads)) (run_of ended) (runs_of s.passed) (runs_of s.behind) (one_ended s.seen s.reads ended s.read s.over.1) in
      record {
        before = w.before;
        behind = w.behind;
        there = ap runs_of s.there ∙ three s.passed s.seen s.behind ∙ w.there;
        rest = ap runs_of s.flights ∙ three s.passed (left_by s.seen s.reads) s.behind ∙ w.rest;
      }

  pub ended_apart : Rising (map (λ f. f.ticket) old.flights) → has ended.ticket (tickets_in (ended_without.before ++ ended_without.behind)) ≡ false
  ended_apart rising =
      let tickets : AreApart (tickets_in ended_without.before ++ ended.ticket ∷ tickets_in ended_without.behind) =
      subst AreApart (sym (tickets_of_runs old.flights) ∙ ap tickets_in ended_without.there ∙ map-append (λ (r : Run). r.ticket) ended_without.before (run_of ended ∷ ended_without.behind))
      (rising_apart (map (λ f. f.ticket) old.flights) rising) in
      ap (has ended.ticket) (map-append (λ (r : Run). r.ticket) ended_without.before ended_without.behind)
      ∙ (apart_middle (tickets_in ended_without.before) ended.ticket (tickets_in ended_without.behind) tickets).0

pub note_kept : (history : History) (last : ℕ) (old looked : Future) (e : Ended) (dead : List ℕ) → Legal history → Rising (map (λ f. f.ticket) old.flights) → Flown history (runs_of old.flights) →
    AreSeen last old looked (Some e) → LeavesBut history (note_of_end e) dead → FramesStand history old → FramesStand (history ++ note_of_end e ∷ []) (without_pictures looked dead)
note_kept history last old looked e dead legal rising flown s leaves stand =
    subst (λ n. LeavesBut history n dead → FramesStand (history ++ n ∷ []) (without_pictures looked dead)) (ended_note last old looked e s)
    (λ leaves. noted history old f w.before w.behind (subst (Flown history) w.there flown) (subst (λ rs. Standing history rs old.pictures) w.there stand.stands)
    looked dead legal (ended_apart last old looked e s rising) leaves stand.open_ stand.lent w.rest
    (s.pictures ∙ ap (λ fs. old.pictures ++ pictures_of fs) s.over.1)
    (seen_shows (history ++ note_of_run (run_of f) ∷ []) last old looked (Some e) s (renders_stay history (note_of_run (run_of f) ∷ []) old flown stand.stands stand.shows)))
    leaves
  where
    f : Flying
    f = ended last old looked e s

    w : IsWithout (runs_of old.flights) (runs_of looked.flights) (run_of f)
    w = ended_without last old looked e s
