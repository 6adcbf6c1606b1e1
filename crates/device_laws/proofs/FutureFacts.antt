-- What calls on kept frames make of the runs.
use Rattle.std.proofs.Common.{ℕ, ◌+◌, ◌==◌, ◌≡◌, ◌≤◌, ◌∙◌, not, Bool, true, false, List, [], ◌∷◌, Option, Some, None, refl, sym, ap, arith}
use Rattle.std.specs.Prelude.{cond, count_by, ◌&&◌}
use Rattle.std.specs.List.{filter, find}
use Rattle.std.proofs.lemmas.List.Sums.{sum_by-cons}
use Rattle.frame_future.specs.Flights.{Flying, is_stopped, stopped_at}
use Rattle.frame_future.specs.Future.{Finished, Future, IsDiscarded, IsKept, flight_of, is_flight_of, is_picture_of, replaced}
use Rattle.device_laws.specs.Flown.{run_of, runs_of, stopped_run, stopped_runs}
use Rattle.device_laws.specs.Standing.{other_pictures}

-- a count of none, and of one more
pub count_next : {X : Type 0} (p : X → Bool) (x : X) (xs : List X) → count_by p (x ∷ xs) ≡ cond (p x) 1 0 + count_by p xs
count_next {X} p x xs = sum_by-cons (λ (y : X). cond (p y) 1 0) x xs

-- where no picture is the frame's, all are others
all_others : (frame : ℕ) (ps : List Finished) → count_by (is_picture_of frame) ps ≤ 0 → filter (λ p. not (is_picture_of frame p)) ps ≡ ps
all_others frame [] none = refl
all_others frame (p ∷ ps) none = by (is_picture_of frame p) refl (all_others frame ps)
  where
    counted : (b : Bool) → is_picture_of frame p ≡ b → cond {A = ℕ} b 1 0 + count_by (is_picture_of frame) ps ≤ 0
    counted b is =
        let next : count_by (is_picture_of frame) (p ∷ ps) ≡ cond (is_picture_of frame p) 1 0 + count_by (is_picture_of frame) ps = count_next (is_picture_of frame) p ps in
        let same : cond {A = ℕ} (is_picture_of frame p) 1 0 ≡ cond {A = ℕ} b 1 0 = ap (λ b. cond {A = ℕ} b 1 0) is in omega (arith, none, next, same)

    by : (b : Bool) → is_picture_of frame p ≡ b → (count_by (is_picture_of frame) ps ≤ 0 → filter (λ p. not (is_picture_of frame p)) ps ≡ ps) →
        cond (not b) (p ∷ filter (λ p. not (is_picture_of frame p)) ps) (filter (λ p. not (is_picture_of frame p)) ps) ≡ p ∷ ps
    by true is rest = absurd (omega (arith, counted true is))
    by false is rest = ap (λ qs. p ∷ qs) (rest (let less : 0 + count_by (is_picture_of frame) ps ≤ 0 = counted false is in omega (arith, less)))

-- a flight that is not the frame's going one stays as it is
stays : (frame : ℕ) (f : Flying) → is_flight_of frame f ≡ false → stopped_run frame (run_of f) ≡ run_of f
stays frame f other = by (f.frame == frame) (is_stopped f) refl other
  where
    by : (b c : Bool) → is_stopped f ≡ c → (b && not c) ≡ false → cond b (record { ticket = f.ticket; frame = f.frame; stopped = true }) (run_of f) ≡ run_of f
    by true true is other = ap (λ s. record { ticket = f.ticket; frame = f.frame; stopped = s }) (sym is)
    by true false is other = absurd cc
    by false c is other = refl

all_stay : (frame : ℕ) (fs : List Flying) → count_by (is_flight_of frame) fs ≤ 0 → stopped_runs frame (runs_of fs) ≡ runs_of fs
all_stay frame [] none = refl
all_stay frame (f ∷ fs) none = by (is_flight_of frame f) refl (all_stay frame fs)
  where
    counted : (b : Bool) → is_flight_of frame f ≡ b → cond {A = ℕ} b 1 0 + count_by (is_flight_of frame) fs ≤ 0
    counted b is =
        let next : count_by (is_flight_of frame) (f ∷ fs) ≡ cond (is_flight_of frame f) 1 0 + count_by (is_flight_of frame) fs = count_next (is_flight_of frame) f fs in
        let same : cond {A = ℕ} (is_flight_of frame f) 1 0 ≡ cond {A = ℕ} b 1 0 = ap (λ b. cond {A = ℕ} b 1 0) is in omega (arith, none, next, same)

    by : (b : Bool) → is_flight_of frame f ≡ b → (count_by (is_flight_of frame) fs ≤ 0 → stopped_runs frame (runs_of fs) ≡ runs_of fs) →
        stopped_run frame (run_of f) ∷ stopped_runs frame (runs_of fs) ≡ run_of f ∷ runs_of fs
    by true is rest = absurd (omega (arith, counted true is))
    by false is rest =
        ap (λ r. r ∷ stopped_runs frame (runs_of fs)) (stays frame f is)
        ∙ ap (λ rs. run_of f ∷ rs) (rest (let less : 0 + count_by (is_flight_of frame) fs ≤ 0 = counted false is in omega (arith, less)))

none_found : (frame : ℕ) (fs : List Flying) → find (is_flight_of frame) fs ≡ None → stopped_runs frame (runs_of fs) ≡ runs_of fs
none_found frame [] none = refl
none_found frame (f ∷ fs) none = by (is_flight_of frame f) refl none (none_found frame fs)
  where
    by : (b : Bool) → is_flight_of frame f ≡ b → cond b (Some f) (find (is_flight_of frame) fs) ≡ None → (find (is_flight_of frame) fs ≡ None → stopped_runs frame (runs_of fs) ≡ runs_of fs) →
        stopped_run frame (run_of f) ∷ stopped_runs frame (runs_of fs) ≡ run_of f ∷ runs_of fs
    by true is none rest = absurd cc
    by false is none rest = ap (λ r. r ∷ stopped_runs frame (runs_of fs)) (stays frame f is) ∙ ap (λ rs. run_of f ∷ rs) (rest none)

-- the frame's going flight is stopped
one_stops : (frame claims : ℕ) (f : Flying) → is_flight_of frame f ≡ true → run_of (stopped_at claims f) ≡ stopped_run frame (run_of f)
one_stops frame claims f is = by (f.frame == frame) is
  where
    by : (b : Bool) → (b && not (is_stopped f)) ≡ true → run_of (stopped_at claims f) ≡ cond b (record { ticket = f.ticket; frame = f.frame; stopped = true }) (run_of f)
    by true is = refl
    by false is = absurd cc

stopped_in : (frame claims : ℕ) (f : Flying) (fs : List Flying) → find (is_flight_of frame) fs ≡ Some f → count_by (is_flight_of frame) fs ≤ 1 →
    runs_of (replaced (is_flight_of frame) (stopped_at claims f) fs) ≡ stopped_runs frame (runs_of fs)
stopped_in frame claims f [] found single = absurd cc
stopped_in frame claims f (g ∷ fs) found single = by (is_flight_of frame g) refl found (stopped_in frame claims f fs)
  where
    counted : (b : Bool) → is_flight_of frame g ≡ b → cond {A = ℕ} b 1 0 + count_by (is_flight_of frame) fs ≤ 1
    counted b is =
        let next : count_by (is_flight_of frame) (g ∷ fs) ≡ cond (is_flight_of frame g) 1 0 + count_by (is_flight_of frame) fs = count_next (is_flight_of frame) g fs in
        let same : cond {A = ℕ} (is_flight_of frame g) 1 0 ≡ cond {A = ℕ} b 1 0 = ap (λ b. cond {A = ℕ} b 1 0) is in omega (arith, single, next, same)

    by : (b : Bool) → is_flight_of frame g ≡ b → cond b (Some g) (find (is_flight_of frame) fs) ≡ Some f →
        (find (is_flight_of frame) fs ≡ Some f → count_by (is_flight_of frame) fs ≤ 1 → runs_of (replaced (is_flight_of frame) (stopped_at claims f) fs) ≡ stopped_runs frame (runs_of fs)) →
        runs_of (cond b (stopped_at claims f ∷ fs) (g ∷ replaced (is_flight_of frame) (stopped_at claims f) fs)) ≡ stopped_run frame (run_of g) ∷ stopped_runs frame (runs_of fs)
    by true is found rest =
        let same : g ≡ f = cc in
        ap (λ r. r ∷ runs_of fs) (ap (λ f. run_of (stopped_at claims f)) (sym same) ∙ one_stops frame claims g is)
        ∙ ap (λ rs. stopped_run frame (run_of g) ∷ rs) (sym (all_stay frame fs (let less : 1 + count_by (is_flight_of frame) fs ≤ 1 = counted true is in omega (arith, less))))
    by false is found rest =
        ap (λ rs. run_of g ∷ rs) (rest found (let less : 0 + count_by (is_flight_of frame) fs ≤ 1 = counted false is in omega (arith, less)))
        ∙ ap (λ r. r ∷ stopped_runs frame (runs_of fs)) (sym (stays frame g is))

-- where the frame has a going flight, it is counted
pub found_counts : {X : Type 0} (p : X → Bool) (xs : List X) (x : X) → find p xs ≡ Some x → 1 ≤ count_by p xs
found_counts p [] x found = absurd cc
found_counts p (y ∷ xs) x found = by (p y) refl found (found_counts p xs x)
  where
    by : (b : Bool) → p y ≡ b → cond b (Some y) (find p xs) ≡ Some x → (find p xs ≡ Some x → 1 ≤ count_by p xs) → 1 ≤ count_by p (y ∷ xs)
    by b is found rest = of b is found (count_next p y xs)
      where
        of : (b : Bool) → p y ≡ b → cond b (Some y) (find p xs) ≡ Some x → count_by p (y ∷ xs) ≡ cond (p y) 1 0 + count_by p xs → 1 ≤ count_by p (y ∷ xs)
        of true is found next = let one : cond {A = ℕ} (p y) 1 0 ≡ 1 = ap (λ b. cond {A = ℕ} b 1 0) is in omega (arith, next, one)
        of false is found next = let more : 1 ≤ count_by p xs = rest found in omega (arith, next, more)

pub discarded_runs : (frame : ℕ) (old new : Future) → IsKept old → IsDiscarded frame old new (flight_of old frame) →
    (runs_of new.flights ≡ stopped_runs frame (runs_of old.flights)) × (new.pictures ≡ other_pictures frame old.pictures)
discarded_runs frame old new kept discarded = by (flight_of old frame) refl discarded
  where
    by : (x : Option Flying) → flight_of old frame ≡ x → IsDiscarded frame old new x → (runs_of new.flights ≡ stopped_runs frame (runs_of old.flights)) × (new.pictures ≡ other_pictures frame old.pictures)
    by None none is = (
      ap (λ (s : Future). runs_of s.flights) is ∙ sym (none_found frame old.flights none),
      ap (λ (s : Future). s.pictures) is,
    )
    by (Some f) found is =
        let single : count_by (is_flight_of frame) old.flights + count_by (is_picture_of frame) old.pictures ≤ 1 = kept.single frame in
        let counts : 1 ≤ count_by (is_flight_of frame) old.flights = found_counts (is_flight_of frame) old.flights f found in (
          ap (λ (s : Future). runs_of s.flights) is.2 ∙ ap (λ g. runs_of (replaced (is_flight_of frame) g old.flights)) is.1.now
              ∙ stopped_in frame is.1.claims f old.flights found (omega (arith, single)),
          ap (λ (s : Future). s.pictures) is.2 ∙ sym (all_others frame old.pictures (omega (arith, single, counts))),
        )
