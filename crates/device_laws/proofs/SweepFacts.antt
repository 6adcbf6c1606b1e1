-- The runs of a device over a sweep: each flight that ends is noted, and the notes may stand in the history.
use Rattle.std.proofs.Common.{ℕ, ◌==◌, ◌≡◌, ◌<◌, ◌∙◌, ◌⊎◌, inl, inr, not, Bool, true, false, List, [], ◌∷◌, ◌++◌, append-nil, append_assoc, map, refl, sym, ap, subst, arith}
use Rattle.std.specs.Prelude.{⊤, cond, ◌&&◌, ◌||◌}
use Rattle.std.specs.List.{AllByRecursion, list_any}
use Rattle.std.proofs.lemmas.Bool.{eq-eqb, eqb-true, or_cases, or_left, or_right}
use Rattle.std.proofs.lemmas.List.{map-append}
use Rattle.std.proofs.lemmas.List.Folds.{list_any-append}
use Rattle.flight_books.specs.Sweeps.{note_of, notes_of}
use Rattle.frame_future.specs.Flights.{Flying, is_stopped, looked_at}
use Rattle.frame_future.specs.Future.{Rising}
use Rattle.frame_future.specs.Reads.{AreRead, ended_by, is_end, left_by}
use Rattle.past_laws.proofs.FlightFacts.{flights_have}
use Rattle.past_laws.proofs.OpenFacts.{follow_more}
use Rattle.seq_model.proofs.Prefixes.{extension_is_legal}
use Rattle.seq_model.specs.Extensions.{let_follow, lets_follow}
use Rattle.seq_model.specs.Histories.{History}
use Rattle.seq_model.specs.Legal.{Legal, is_called, is_flying}
use Rattle.seq_model.specs.Life.{has}
use Rattle.seq_model.specs.State.{flights}
use Rattle.seq_model.specs.Steps.{after}
use Rattle.seq_model.specs.declared.calls.Entry.TheVariants.{Finished, Left}
use Rattle.device_laws.proofs.FlightFacts.{and_right}
use Rattle.device_laws.proofs.FlightSteps.{flights_by, stops_after}
use Rattle.device_laws.proofs.FlownFacts.{middle, run_over, weaker, without_middle}
use Rattle.device_laws.specs.Flown.{Flown, IsNoted, IsRun, LetsNotes, Run, note_of_run, run_of, runs_of, tickets_in}

-- each number stands once
abbrev pub AreApart : List ℕ → Type 0
AreApart [] = ⊤
AreApart (t ∷ ts) = (has t ts ≡ false) × AreApart ts

above : (t : ℕ) (ts : List ℕ) → AllByRecursion (λ u. t < u) ts → has t ts ≡ false
above t [] all = refl
above t (u ∷ ts) all = by (u == t) refl (above t ts all.1)
  where
    by : (b : Bool) → (u == t) ≡ b → has t ts ≡ false → (b || has t ts) ≡ false
    by false is rest = rest
    by true is rest = let same : u ≡ t = eqb-true u t is in absurd (omega (arith, all.0, same))

pub rising_apart : (ts : List ℕ) → Rising ts → AreApart ts
rising_apart [] rising = tt
rising_apart (t ∷ ts) rising = (above t ts rising.0, rising_apart ts rising.1)

pub has_joined : (t : ℕ) (xs ys : List ℕ) → has t (xs ++ ys) ≡ (has t xs || has t ys)
has_joined t xs ys = list_any-append (λ k. k == t) xs ys

pub none_of : (a b : Bool) → (a || b) ≡ false → (a ≡ false) × (b ≡ false)
none_of true b is = absurd cc
none_of false b is = (refl, is)

-- without the one in the midst, which the others are apart from
pub apart_middle : (xs : List ℕ) (t : ℕ) (ys : List ℕ) → AreApart (xs ++ t ∷ ys) → (has t (xs ++ ys) ≡ false) × AreApart (xs ++ ys)
apart_middle [] t ys apart = apart
apart_middle (x ∷ xs) t ys apart = by (apart_middle xs t ys apart.1)
  where
    parts : (has x xs ≡ false) × (((t == x) || has x ys) ≡ false)
    parts = none_of (has x xs) ((t == x) || has x ys) (sym (has_joined x xs (t ∷ ys)) ∙ apart.0)

    both : ((t == x) ≡ false) × (has x ys ≡ false)
    both = none_of (t == x) (has x ys) parts.1

    flipped : (b : Bool) → (x == t) ≡ b → b ≡ false
    flipped false is = refl
    flipped true is = let wrong : (t == x) ≡ true = eq-eqb t x (sym (eqb-true x t is)) in let no : false ≡ true = sym both.0 ∙ wrong in absurd cc

    by : (has t (xs ++ ys) ≡ false) × AreApart (xs ++ ys) → (((x == t) || has t (xs ++ ys)) ≡ false) × ((has x (xs ++ ys) ≡ false) × AreApart (xs ++ ys))
    by rest = (
      ap (λ b. b || has t (xs ++ ys)) (flipped (x == t) refl) ∙ rest.0,
      (has_joined x xs ys ∙ ap (λ b. b || has x ys) parts.0 ∙ both.1, rest.1),
    )

-- the tickets without one
tickets_without : (k : ℕ) (xs : List ℕ) (t : ℕ) (ys : List ℕ) → has t (xs ++ ys) ≡ false → (not (t == k) && has k (xs ++ t ∷ ys)) ≡ has k (xs ++ ys)
tickets_without k xs t ys apart = by (t == k) refl
  where
    by : (b : Bool) → (t == k) ≡ b → (not b && has k (xs ++ t ∷ ys)) ≡ has k (xs ++ ys)
    by true is = sym apart ∙ ap (λ k. has k (xs ++ ys)) (eqb-true t k is)
    by false is = has_joined k xs (t ∷ ys) ∙ ap (λ b. has k xs || (b || has k ys)) is ∙ sym (has_joined k xs ys)

-- a run flies, or was stopped; and where no note of the history stopped it, it flies
pub run_flies : (history : History) (done : List Run) (r : Run) (rest : List Run) → Flown history (done ++ r ∷ rest) → has r.ticket (flights (after history).state) ≡ true
run_flies history done r rest flown =
    flown.tickets r.ticket ∙ ap (has r.ticket) (map-append (λ (r : Run). r.ticket) done (r ∷ rest)) ∙ has_joined r.ticket (tickets_in done) (r.ticket ∷ tickets_in rest)
    ∙ or_right (has r.ticket (tickets_in done)) ((r.ticket == r.ticket) || has r.ticket (tickets_in rest)) (or_left (r.ticket == r.ticket) (has r.ticket (tickets_in rest)) (eq-eqb r.ticket r.ticket refl))

is_note : (t : ℕ) (b : Bool) → is_called (cond b (Left t) (Finished t)) ≡ false
is_note t true = refl
is_note t false = refl

note_is_legal : (history : History) (done : List Run) (r : Run) (rest : List Run) → Legal history → LetsNotes history → Flown history (done ++ r ∷ rest) → Legal (history ++ note_of_run r ∷ [])
note_is_legal history done r rest legal lets flown = by r.stopped refl (lets (note_of_run r) (is_note r.ticket r.stopped))
  where
    run : IsRun history r
    run = middle (IsRun history) done r rest flown.each

    flies : (is_flying (after history).state r.ticket || has r.ticket (after history).state.stopped) ≡ true
    flies = sym (flights_have (after history).state r.ticket) ∙ run_flies history done r rest flown

    left : (is_flying (after history).state r.ticket ≡ true) ⊎ (has r.ticket (after history).state.stopped ≡ true) →
        (has r.ticket (after history).state.stopped ≡ true) ⊎ ((is_flying (after history).state r.ticket ≡ true) × (not (list_any is_called []) ≡ true))
    left (inl flying) = inr (flying, refl)
    left (inr stopped) = inl stopped

    flying : r.stopped ≡ false → (is_flying (after history).state r.ticket ≡ true) ⊎ (has r.ticket (after history).state.stopped ≡ true) → is_flying (after history).state r.ticket ≡ true
    flying is (inl flies) = flies
    flying is (inr stopped) = let wrong : false ≡ true = sym is ∙ run.stopped stopped in absurd cc

    by : (b : Bool) → r.stopped ≡ b → let_follow history (cond b (Left r.ticket) (Finished r.ticket)) ≡ true → Legal (history ++ cond b (Left r.ticket) (Finished r.ticket) ∷ [])
    by true is follows =
        extension_is_legal history (Left r.ticket) legal
        (record { placed = left (or_cases (is_flying (after history).state r.ticket) (has r.ticket (after history).state.stopped) flies); rising = tt }) follows
    by false is follows =
        extension_is_legal history (Finished r.ticket) legal
        (record { placed = flying is (or_cases (is_flying (after history).state r.ticket) (has r.ticket (after history).state.stopped) flies); rising = tt }) follows

note_lets : (history : History) (t : ℕ) (b : Bool) → LetsNotes history → LetsNotes (history ++ cond b (Left t) (Finished t) ∷ [])
note_lets history t b lets next quiet = follow_more history (cond b (Left t) (Finished t)) next (lets next quiet) (by b)
  where
    by : (b : Bool) → lets_follow (after history) (cond b (Left t) (Finished t)) next ≡ true
    by false = refl
    by true = or_right (has t (after history).state.stopped) (not (is_called next)) (ap not quiet)

note_flown : (history : History) (done : List Run) (r : Run) (rest : List Run) → Legal (history ++ note_of_run r ∷ []) → has r.ticket (tickets_in (done ++ rest)) ≡ false → Flown history (done ++ r ∷ rest) →
    Flown (history ++ note_of_run r ∷ []) (done ++ rest)
note_flown history done r rest legal apart flown = by r.stopped legal
  where
    tickets : (k : ℕ) → (not (r.ticket == k) && has k (flights (after history).state)) ≡ has k (tickets_in (done ++ rest))
    tickets k =
        ap (λ b. not (r.ticket == k) && b) (flown.tickets k ∙ ap (has k) (map-append (λ (r : Run). r.ticket) done (r ∷ rest)))
        ∙ tickets_without k (tickets_in done) r.ticket (tickets_in rest) (sym (ap (has r.ticket) (map-append (λ (r : Run). r.ticket) done rest)) ∙ apart)
        ∙ sym (ap (has k) (map-append (λ (r : Run). r.ticket) done rest))

    others : AllByRecursion (IsRun history) (done ++ rest)
    others = without_middle (IsRun history) done r rest flown.each

    by : (b : Bool) → Legal (history ++ cond b (Left r.ticket) (Finished r.ticket) ∷ []) → Flown (history ++ cond b (Left r.ticket) (Finished r.ticket) ∷ []) (done ++ rest)
    by true legal = record {
      tickets = λ k. flights_by history (Left r.ticket) k legal ∙ tickets k;
      each =
          weaker (IsRun history) (IsRun (history ++ Left r.ticket ∷ [])) (done ++ rest)
          (λ q run. run_over history (Left r.ticket) q (λ is. and_right (not (r.ticket == q.ticket)) (has q.ticket (after history).state.stopped) (sym (stops_after history (Left r.ticket) q.ticket) ∙ is)) run) others;
    }
    by false legal = record {
      tickets = λ k. flights_by history (Finished r.ticket) k legal ∙ tickets k;
      each =
          weaker (IsRun history) (IsRun (history ++ Finished r.ticket ∷ [])) (done ++ rest)
          (λ q run. run_over history (Finished r.ticket) q (λ is. sym (stops_after history (Finished r.ticket) q.ticket) ∙ is) run) others;
    }

swept : (history : History) (done : List Run) (fs : List Flying) (reads : List ℕ) → AreRead fs reads → AreApart (tickets_in (done ++ runs_of fs)) → IsNoted history (done ++ runs_of fs) →
    IsNoted (history ++ notes_of fs reads) (done ++ runs_of (left_by fs reads))
swept history done [] [] read apart now = subst (λ h. IsNoted h (done ++ [])) (sym (append-nil history)) now
swept history done [] (r ∷ reads) read apart now = absurd read
swept history done (f ∷ fs) [] read apart now = absurd read
swept history done (f ∷ fs) (r ∷ reads) read apart now =
    by (is_end f r)
    (λ history apart now. swept history done fs reads read.1 apart now)
    (λ apart now. swept history (done ++ run_of f ∷ []) fs reads read.1 apart now)
  where
    by : (b : Bool) →
        ((h : History) → AreApart (tickets_in (done ++ runs_of fs)) → IsNoted h (done ++ runs_of fs) → IsNoted (h ++ notes_of fs reads) (done ++ runs_of (left_by fs reads))) →
        (AreApart (tickets_in ((done ++ run_of f ∷ []) ++ runs_of fs)) → IsNoted history ((done ++ run_of f ∷ []) ++ runs_of fs) →
        IsNoted (history ++ notes_of fs reads) ((done ++ run_of f ∷ []) ++ runs_of (left_by fs reads))) →
        IsNoted (history ++ map note_of (cond b (looked_at r f ∷ ended_by fs reads) (ended_by fs reads))) (done ++ runs_of (cond b (left_by fs reads) (looked_at r f ∷ left_by fs reads)))
    by true ended passed =
        let parts : (has f.ticket (tickets_in done ++ tickets_in (runs_of fs)) ≡ false) × AreApart (tickets_in done ++ tickets_in (runs_of fs)) =
        apart_middle (tickets_in done) f.ticket (tickets_in (runs_of fs)) (subst AreApart (map-append (λ (r : Run). r.ticket) done (run_of f ∷ runs_of fs)) apart) in
        let legal : Legal (history ++ note_of_run (run_of f) ∷ []) = note_is_legal history done (run_of f) (runs_of fs) now.legal now.lets now.flown in
        let next : IsNoted (history ++ note_of_run (run_of f) ∷ []) (done ++ runs_of fs) =
        record {
          legal = legal;
          lets = note_lets history f.ticket (is_stopped f) now.lets;
          flown = note_flown history done (run_of f) (runs_of fs) legal (ap (has f.ticket) (map-append (λ (r : Run). r.ticket) done (runs_of fs)) ∙ parts.0) now.flown;
        } in
        subst (λ h. IsNoted h (done ++ runs_of (left_by fs reads))) (append_assoc history (note_of_run (run_of f) ∷ []) (notes_of fs reads))
        (ended (history ++ note_of_run (run_of f) ∷ []) (subst AreApart (sym (map-append (λ (r : Run). r.ticket) done (runs_of fs))) parts.1) next)
    by false ended passed =
        subst (λ runs. IsNoted (history ++ notes_of fs reads) runs) (append_assoc done (run_of f ∷ []) (runs_of (left_by fs reads)))
        (passed (subst (λ runs. AreApart (tickets_in runs)) (sym (append_assoc done (run_of f ∷ []) (runs_of fs))) apart)
        (subst (IsNoted history) (sym (append_assoc done (run_of f ∷ []) (runs_of fs))) now))

-- the tickets of flights and of their runs
pub tickets_of_runs : (fs : List Flying) → tickets_in (runs_of fs) ≡ map (λ f. f.ticket) fs
tickets_of_runs [] = refl
tickets_of_runs (f ∷ fs) = ap (λ ts. f.ticket ∷ ts) (tickets_of_runs fs)

pub sweep_notes : (history : History) (fs : List Flying) (reads : List ℕ) → Legal history → LetsNotes history → Rising (map (λ f. f.ticket) fs) → AreRead fs reads → Flown history (runs_of fs) →
    IsNoted (history ++ notes_of fs reads) (runs_of (left_by fs reads))
sweep_notes history fs reads legal lets rising read flown =
    swept history [] fs reads read (subst AreApart (sym (tickets_of_runs fs)) (rising_apart (map (λ f. f.ticket) fs) rising)) (record { legal = legal; lets = lets; flown = flown })

pub one_noted : (history : History) (done : List Run) (r : Run) (rest : List Run) → Legal history → LetsNotes history → has r.ticket (tickets_in (done ++ rest)) ≡ false → Flown history (done ++ r ∷ rest) →
    IsNoted (history ++ note_of_run r ∷ []) (done ++ rest)
one_noted history done r rest legal lets apart flown =
    let noted : Legal (history ++ note_of_run r ∷ []) = note_is_legal history done r rest legal lets flown in
    record { legal = noted; lets = note_lets history r.ticket r.stopped lets; flown = note_flown history done r rest noted apart flown }
