-- What a sweep makes of flights that nobody has worked on, and of one among them whose work is done.
use Rattle.std.proofs.Common.{◌≡◌, ◌∙◌, ◌==◌, ◌<◌, ℕ, Bool, true, false, cond, List, [], ◌∷◌, Some, length, map, arith, refl, sym, ap, subst}
use Rattle.std.specs.List.{find}
use Rattle.std.specs.Option.{option_map, unwrap_or}
use Rattle.std.proofs.lemmas.Bool.{eq-eqb}
use Rattle.frame_future.specs.Flights.{Flying, awaited, key_at, looked_at}
use Rattle.frame_future.specs.Future.{is_flight_of, replaced}
use Rattle.frame_future.specs.Reads.{AreRead, IsRead, ended_by, is_end, left_by}
use Rattle.tile_claims.specs.Parts.{tiles_of}
use Rattle.solo_device.specs.Untouched.{AreUntouched, IsGiven, IsUntouched}

-- a look reads none of its tiles as given, which is not its end
reads_none : (f : Flying) (read : ℕ) → IsUntouched f → IsRead f read → read ≡ 0
reads_none f read u r = r.alone u.alone ∙ ap length u.none_given

pub waits_for_all : (f : Flying) → IsUntouched f → awaited f ≡ tiles_of (key_at f)
waits_for_all f u = ap (λ stop. unwrap_or stop (tiles_of (key_at f))) u.going

positive_is_not : (m n : ℕ) → m ≡ 0 → 0 < n → (m == n) ≡ false
positive_is_not m n none some = grind (arith, none, some)

goes_on : (f : Flying) (read : ℕ) → IsUntouched f → IsRead f read → is_end f read ≡ false
goes_on f read u r =
    positive_is_not read (awaited f) (reads_none f read u r) (subst (λ n. 0 < n) (sym (waits_for_all f u)) u.some)

stays : (f : Flying) (read : ℕ) → IsUntouched f → IsRead f read → IsUntouched (looked_at read f)
stays f read u r = record {
  alone = u.alone;
  idle = u.idle;
  none_given = u.none_given;
  in_time = u.in_time;
  going = u.going;
  none_read = reads_none f read u r;
  some = u.some;
}

-- so a sweep ends none of them, and leaves them so
pub none_ends : (fs : List Flying) (reads : List ℕ) → AreUntouched fs → AreRead fs reads → ended_by fs reads ≡ []
none_ends [] [] all read = refl
none_ends [] (r ∷ reads) all read = refl
none_ends (f ∷ fs) [] all read = absurd read
none_ends (f ∷ fs) (r ∷ reads) all read =
    ap (λ b. cond b (looked_at r f ∷ ended_by fs reads) (ended_by fs reads)) (goes_on f r all.0 read.0) ∙ none_ends fs reads all.1 read.1

left_as : (f : Flying) (fs : List Flying) (r : ℕ) (reads : List ℕ) → IsUntouched f → IsRead f r
    → left_by (f ∷ fs) (r ∷ reads) ≡ looked_at r f ∷ left_by fs reads
left_as f fs r reads u read = ap (λ b. cond b (left_by fs reads) (looked_at r f ∷ left_by fs reads)) (goes_on f r u read)

pub all_stay : (fs : List Flying) (reads : List ℕ) → AreUntouched fs → AreRead fs reads → AreUntouched (left_by fs reads)
all_stay [] [] all read = tt
all_stay [] (r ∷ reads) all read = tt
all_stay (f ∷ fs) [] all read = absurd read
all_stay (f ∷ fs) (r ∷ reads) all read =
    subst AreUntouched (sym (left_as f fs r reads all.0 read.0)) (stays f r all.0 read.0, all_stay fs reads all.1 read.1)

-- each frame has the same flight
pub same_ticket : (h : ℕ) (fs : List Flying) (reads : List ℕ) → AreUntouched fs → AreRead fs reads
    → option_map (λ f. f.ticket) (find (is_flight_of h) (left_by fs reads)) ≡ option_map (λ f. f.ticket) (find (is_flight_of h) fs)
same_ticket h [] [] all read = refl
same_ticket h [] (r ∷ reads) all read = refl
same_ticket h (f ∷ fs) [] all read = absurd read
same_ticket h (f ∷ fs) (r ∷ reads) all read =
    ap (λ gs. option_map (λ (f : Flying). f.ticket) (find (is_flight_of h) gs)) (left_as f fs r reads all.0 read.0)
    ∙ by (is_flight_of h f) (same_ticket h fs reads all.1 read.1)
  where
    by : (b : Bool) → option_map (λ (f : Flying). f.ticket) (find (is_flight_of h) (left_by fs reads)) ≡ option_map (λ f. f.ticket) (find (is_flight_of h) fs)
        → option_map (λ (f : Flying). f.ticket) (cond b (Some (looked_at r f)) (find (is_flight_of h) (left_by fs reads))) ≡ option_map (λ (f : Flying). f.ticket) (cond b (Some f) (find (is_flight_of h) fs))
    by true same = refl
    by false same = same

pub same_tickets : (fs : List Flying) (reads : List ℕ) → AreUntouched fs → AreRead fs reads → map (λ f. f.ticket) (left_by fs reads) ≡ map (λ f. f.ticket) fs
same_tickets [] [] all read = refl
same_tickets [] (r ∷ reads) all read = refl
same_tickets (f ∷ fs) [] all read = absurd read
same_tickets (f ∷ fs) (r ∷ reads) all read =
    ap (λ gs. map (λ (f : Flying). f.ticket) gs) (left_as f fs r reads all.0 read.0) ∙ ap (λ ts. f.ticket ∷ ts) (same_tickets fs reads all.1 read.1)

-- one among them whose work is done ends, and no other
module _ (p : Flying → Bool) (g : Flying) (given : IsGiven g) where
  ends_now : (read : ℕ) → IsRead g read → read ≡ awaited g
  ends_now read r = r.alone given.alone ∙ given.all

  is_end_now : (read : ℕ) → IsRead g read → is_end g read ≡ true
  is_end_now read r = eq-eqb read (awaited g) (ends_now read r)

  over_alone : (fs : List Flying) (r : ℕ) (reads : List ℕ) → AreUntouched fs → IsRead g r → AreRead fs reads
      → ended_by (g ∷ fs) (r ∷ reads) ≡ looked_at (awaited g) g ∷ []
  over_alone fs r reads all here rest =
      ap (λ b. cond b (looked_at r g ∷ ended_by fs reads) (ended_by fs reads)) (is_end_now r here)
      ∙ (λ i. looked_at (ends_now r here i) g ∷ none_ends fs reads all rest i)

  left_alone : (fs : List Flying) (r : ℕ) (reads : List ℕ) → IsRead g r → left_by (g ∷ fs) (r ∷ reads) ≡ left_by fs reads
  left_alone fs r reads here = ap (λ b. cond b (left_by fs reads) (looked_at r g ∷ left_by fs reads)) (is_end_now r here)

  pub one_ends : (fs : List Flying) (f : Flying) (reads : List ℕ) → AreUntouched fs → find p fs ≡ Some f → AreRead (replaced p g fs) reads
      → ended_by (replaced p g fs) reads ≡ looked_at (awaited g) g ∷ []
  one_ends [] f reads all there read = absurd cc
  one_ends (x ∷ fs) f reads all there read = by (p x) reads there read (λ reads there read. one_ends fs f reads all.1 there read)
    where
      by : (b : Bool) (reads : List ℕ) → cond b (Some x) (find p fs) ≡ Some f → AreRead (cond b (g ∷ fs) (x ∷ replaced p g fs)) reads
          → ((reads : List ℕ) → find p fs ≡ Some f → AreRead (replaced p g fs) reads → ended_by (replaced p g fs) reads ≡ looked_at (awaited g) g ∷ [])
          → ended_by (cond b (g ∷ fs) (x ∷ replaced p g fs)) reads ≡ looked_at (awaited g) g ∷ []
      by true [] there read later = absurd read
      by false [] there read later = absurd read
      by true (r ∷ reads) there read later = over_alone fs r reads all.1 read.0 read.1
      by false (r ∷ reads) there read later =
          ap (λ b. cond b (looked_at r x ∷ ended_by (replaced p g fs) reads) (ended_by (replaced p g fs) reads)) (goes_on x r all.0 read.0)
          ∙ later reads there read.1

  pub others_stay : (fs : List Flying) (f : Flying) (reads : List ℕ) → AreUntouched fs → find p fs ≡ Some f → AreRead (replaced p g fs) reads
      → AreUntouched (left_by (replaced p g fs) reads)
  others_stay [] f reads all there read = absurd cc
  others_stay (x ∷ fs) f reads all there read = by (p x) reads there read (λ reads there read. others_stay fs f reads all.1 there read)
    where
      by : (b : Bool) (reads : List ℕ) → cond b (Some x) (find p fs) ≡ Some f → AreRead (cond b (g ∷ fs) (x ∷ replaced p g fs)) reads
          → ((reads : List ℕ) → find p fs ≡ Some f → AreRead (replaced p g fs) reads → AreUntouched (left_by (replaced p g fs) reads))
          → AreUntouched (left_by (cond b (g ∷ fs) (x ∷ replaced p g fs)) reads)
      by true [] there read later = absurd read
      by false [] there read later = absurd read
      by true (r ∷ reads) there read later =
          subst AreUntouched (sym (left_alone fs r reads read.0)) (all_stay fs reads all.1 read.1)
      by false (r ∷ reads) there read later =
          subst AreUntouched (sym (left_as x (replaced p g fs) r reads all.0 read.0)) (stays x r all.0 read.0, later reads there read.1)
