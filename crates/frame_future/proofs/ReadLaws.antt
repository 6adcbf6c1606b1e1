-- From the looks of one call to the list of what they read.
use Rattle.std.proofs.Common.{◌≡◌, ◌⊎◌, ◌==◌, ℕ, zero, suc, ◌+◌, ◌<◌, ◌≤◌, All, Bool, true, false, cond, List, [], ◌∷◌, ◌++◌, length, get_or, take, drop, map, Option, Some, None, arith, refl, sym, ap, subst, ◌∙◌, inl, inr}
use Rattle.std.proofs.lemmas.List.{append_assoc, append-nil, get_or-take, length-take-le}
use Rattle.std.proofs.lemmas.List.Elements.{All-from_recursion, recursion_from_All}
use Rattle.std.proofs.lemmas.Option.{none-some, slice_get_within}
use Rattle.std.specs.List.{AllByRecursion, find, slice_get}
use Rattle.picture_model.proofs.Spheres.{le_or_below}
use Rattle.frame_future.specs.declared.phase.Ended.{Ended}
use Rattle.frame_future.specs.Ends.{Ends, NoneEnds, StayOpen, StaysOpen}
use Rattle.frame_future.specs.Flights.{Flying, awaited, is_stopped, looked_at}
use Rattle.frame_future.specs.Future.{Finished, Future, finished, flight_at, has_ticket, IsKept, Rising}
use Rattle.frame_future.proofs.Finds.{and_some}
use Rattle.frame_future.specs.Reads.{AreRead, AreSeen, ended_by, is_end, left_by, pictures_of}

abbrev ticket_of : Flying → ℕ
ticket_of f = f.ticket

-- what holds of all of two lists, of both in a row, and back
module _ {X : Type 0} (P : X → Type 0) where
  pub all-both : (xs ys : List X) → AllByRecursion P xs → AllByRecursion P ys → AllByRecursion P (xs ++ ys)
  all-both [] ys all more = more
  all-both (x ∷ xs) ys all more = (all.0, all-both xs ys all.1 more)

  pub all-front : (xs ys : List X) → AllByRecursion P (xs ++ ys) → AllByRecursion P xs
  all-front [] ys all = tt
  all-front (x ∷ xs) ys all = (all.0, all-front xs ys all.1)

  pub all-back : (xs ys : List X) → AllByRecursion P (xs ++ ys) → AllByRecursion P ys
  all-back [] ys all = all
  all-back (x ∷ xs) ys all = all-back xs ys all.1

pub all-each : {X : Type 0} (P Q : X → Type 0) (xs : List X) → ((x : X) → P x → Q x) → AllByRecursion P xs → AllByRecursion Q xs
all-each P Q [] f all = tt
all-each P Q (x ∷ xs) f all = (f x all.0, all-each P Q xs f all.1)

-- rising tickets: those behind a flight are above it, those before it below
all-mapped : (P : ℕ → Type 0) (fs : List Flying) → AllByRecursion P (map ticket_of fs) → AllByRecursion (λ f. P f.ticket) fs
all-mapped P [] all = tt
all-mapped P (f ∷ fs) all = (all.0, all-mapped P fs all.1)

pub rising-above : (f : Flying) (fs : List Flying) → Rising (map ticket_of (f ∷ fs)) → AllByRecursion (λ g. f.ticket < g.ticket) fs
rising-above f fs rising = all-mapped (λ t. f.ticket < t) fs rising.0

pub rising-back : (xs ys : List Flying) → Rising (map ticket_of (xs ++ ys)) → Rising (map ticket_of ys)
rising-back [] ys rising = rising
rising-back (x ∷ xs) ys rising = rising-back xs ys rising.1

front-mapped : (P : ℕ → Type 0) (xs ys : List Flying) → AllByRecursion P (map ticket_of (xs ++ ys)) → AllByRecursion P (map ticket_of xs)
front-mapped P [] ys all = tt
front-mapped P (x ∷ xs) ys all = (all.0, front-mapped P xs ys all.1)

pub rising-front : (xs ys : List Flying) → Rising (map ticket_of (xs ++ ys)) → Rising (map ticket_of xs)
rising-front [] ys rising = tt
rising-front (x ∷ xs) ys rising = (front-mapped (λ t. x.ticket < t) xs ys rising.0, rising-front xs ys rising.1)

pub rising-below : (xs : List Flying) (f : Flying) (ys : List Flying) → Rising (map ticket_of (xs ++ f ∷ ys)) → AllByRecursion (λ g. g.ticket < f.ticket) xs
rising-below [] f ys rising = tt
rising-below (x ∷ xs) f ys rising = ((all-back (λ (g : Flying). x.ticket < g.ticket) xs (f ∷ ys) (rising-above x (xs ++ f ∷ ys) rising)).0, rising-below xs f ys rising.1)

-- reads in a row
pub read-both : (xs ys : List Flying) (rs ss : List ℕ) → AreRead xs rs → AreRead ys ss → AreRead (xs ++ ys) (rs ++ ss)
read-both [] ys [] ss read more = more
read-both [] ys (r ∷ rs) ss read more = absurd read
read-both (x ∷ xs) ys [] ss read more = absurd read
read-both (x ∷ xs) ys (r ∷ rs) ss read more = (read.0, read-both xs ys rs ss read.1 more)

-- by cases of an end, for any list of flights that is made so
module _ {X : Type 0} where
  by-end : (b : Bool) (x : X) (xs ys : List X) → cond b (xs ++ ys) (x ∷ (xs ++ ys)) ≡ cond b xs (x ∷ xs) ++ ys
  by-end true x xs ys = refl
  by-end false x xs ys = refl

  by-stay : (b : Bool) (x : X) (xs ys : List X) → cond b (x ∷ (xs ++ ys)) (xs ++ ys) ≡ cond b (x ∷ xs) xs ++ ys
  by-stay true x xs ys = refl
  by-stay false x xs ys = refl

pub left-both : (xs ys : List Flying) (rs ss : List ℕ) → AreRead xs rs → left_by (xs ++ ys) (rs ++ ss) ≡ left_by xs rs ++ left_by ys ss
left-both [] ys [] ss read = refl
left-both [] ys (r ∷ rs) ss read = absurd read
left-both (x ∷ xs) ys [] ss read = absurd read
left-both (x ∷ xs) ys (r ∷ rs) ss read =
    ap (λ zs. cond (is_end x r) zs (looked_at r x ∷ zs)) (left-both xs ys rs ss read.1) ∙ by-end (is_end x r) (looked_at r x) (left_by xs rs) (left_by ys ss)

pub ended-both : (xs ys : List Flying) (rs ss : List ℕ) → AreRead xs rs → ended_by (xs ++ ys) (rs ++ ss) ≡ ended_by xs rs ++ ended_by ys ss
ended-both [] ys [] ss read = refl
ended-both [] ys (r ∷ rs) ss read = absurd read
ended-both (x ∷ xs) ys [] ss read = absurd read
ended-both (x ∷ xs) ys (r ∷ rs) ss read =
    ap (λ zs. cond (is_end x r) (looked_at r x ∷ zs) zs) (ended-both xs ys rs ss read.1) ∙ by-stay (is_end x r) (looked_at r x) (ended_by xs rs) (ended_by ys ss)

pub pictures-both : (xs ys : List Flying) → pictures_of (xs ++ ys) ≡ pictures_of xs ++ pictures_of ys
pictures-both [] ys = refl
pictures-both (x ∷ xs) ys = ap (λ zs. cond (is_stopped x) zs (finished x ∷ zs)) (pictures-both xs ys) ∙ by-end (is_stopped x) (finished x) (pictures_of xs) (pictures_of ys)

short : (r n : ℕ) → r < n → (r == n) ≡ false
short r n less = grind (arith, less)

same : (n : ℕ) → (n == n) ≡ true
same n = grind arith

-- flights all of which were looked at, and none of which ended
pub record AllStay (old now : List Flying) : Type 0 where
  pub reads : List ℕ
  pub read : AreRead old reads
  pub flights : now ≡ left_by old reads
  pub over : ended_by old reads ≡ []

all_stay : (after : ℕ) (old now : List Flying) → length now ≡ length old → AllByRecursion (λ f. after < f.ticket) old → StayOpen after (length old) old now → AllStay old now
all_stay after [] [] count above stay = record { reads = []; read = tt; flights = refl; over = refl }
all_stay after [] (g ∷ now) count above stay = absurd (omega (arith, count))
all_stay after (f ∷ old) [] count above stay = absurd (omega (arith, count))
all_stay after (f ∷ old) (g ∷ now) count above stay =
    let first : StaysOpen after f g = stay 0 f (omega arith) in
    let rest = all_stay after old now (omega (arith, count)) above.1 (λ k d l. stay (suc k) d (omega (arith, l))) in
    let waits = first.waits above.0 in
    let goes_on : is_end f g.looked ≡ false = short g.looked (awaited f) waits in
    record {
      reads = g.looked ∷ rest.reads;
      read = (record { rises = first.rises above.0; within = omega (arith, waits); alone = first.alone above.0 }, rest.read);
      flights = (λ i. first.looked above.0 i ∷ rest.flights i) ∙ sym (ap (λ b. cond b (left_by old rest.reads) (looked_at g.looked f ∷ left_by old rest.reads)) goes_on);
      over = ap (λ b. cond b (looked_at g.looked f ∷ ended_by old rest.reads) (ended_by old rest.reads)) goes_on ∙ rest.over;
    }

-- flights none of which ended: those that are not above stand first
pub record SomeStay (after : ℕ) (old now : List Flying) : Type 0 where
  pub passed : List Flying
  pub seen : List Flying
  pub looked : List Flying
  pub there : old ≡ passed ++ seen
  pub below : AllByRecursion (λ f. f.ticket ≤ after) passed
  pub above : AllByRecursion (λ f. after < f.ticket) seen
  pub stay : AllStay seen looked
  pub flights : now ≡ passed ++ looked

some_stay : (after : ℕ) (old now : List Flying) → length now ≡ length old → Rising (map ticket_of old) → StayOpen after (length old) old now → SomeStay after old now
some_stay after [] [] count rising stay =
    record { passed = []; seen = []; looked = []; there = refl; below = tt; above = tt; stay = record { reads = []; read = tt; flights = refl; over = refl }; flights = refl }
some_stay after [] (g ∷ now) count rising stay = absurd (omega (arith, count))
some_stay after (f ∷ old) [] count rising stay = absurd (omega (arith, count))
some_stay after (f ∷ old) (g ∷ now) count rising stay =
    by (le_or_below after f.ticket) (some_stay after old now (omega (arith, count)) rising.1 (λ k d l. stay (suc k) d (omega (arith, l))))
  where
    by : (after < f.ticket) ⊎ (f.ticket ≤ after) → SomeStay after old now → SomeStay after (f ∷ old) (g ∷ now)
    by (inl lt) rest =
        let all : AllByRecursion (λ h. after < h.ticket) (f ∷ old) =
        (lt, all-each (λ (h : Flying). f.ticket < h.ticket) (λ h. after < h.ticket) old (λ h l. omega (arith, l, lt)) (rising-above f old rising)) in
        record { passed = []; seen = f ∷ old; looked = g ∷ now; there = refl; below = tt; above = all; stay = all_stay after (f ∷ old) (g ∷ now) count all stay; flights = refl }
    by (inr le) rest =
        let first : StaysOpen after f g = stay 0 f (omega arith) in
        record {
          passed = f ∷ rest.passed;
          seen = rest.seen;
          looked = rest.looked;
          there = ap (λ xs. f ∷ xs) rest.there;
          below = (le, rest.below);
          above = rest.above;
          stay = rest.stay;
          flights = (λ i. first.below le i ∷ rest.flights i);
        }

pub none_seen : (after : ℕ) (old new : Future) → IsKept old → NoneEnds after old new → AreSeen after old new None
none_seen after old new kept none =
    let s = some_stay after old.flights new.flights none.count kept.rising none.stay in
    record {
      passed = s.passed;
      seen = s.seen;
      behind = [];
      reads = s.stay.reads;
      there = s.there ∙ ap (λ xs. s.passed ++ xs) (sym (append-nil s.seen));
      below = s.below;
      above = all-both (λ (f : Flying). after < f.ticket) s.seen [] s.above tt;
      read = s.stay.read;
      flights = s.flights ∙ ap (λ xs. s.passed ++ xs) (s.stay.flights ∙ sym (append-nil (left_by s.seen s.stay.reads)));
      pictures = none.pictures ∙ sym (append-nil old.pictures) ∙ ap (λ xs. old.pictures ++ pictures_of xs) (sym s.stay.over);
      over = (s.stay.over, refl);
      was = tt;
    }

-- a list about one of its elements
pub cut : {X : Type 0} (xs : List X) (i : ℕ) (x : X) → slice_get xs i ≡ Some x → xs ≡ take i xs ++ (x ∷ drop (i + 1) xs)
cut [] i x at = absurd (none-some x at)
cut (y ∷ xs) zero x at = let e : y ≡ x = cc in ap (λ z. z ∷ xs) e
cut (y ∷ xs) (suc i) x at =
    let next : suc i + 1 ≡ suc (i + 1) = omega arith in
    ap (λ zs. y ∷ zs) (cut xs i x at) ∙ ap (λ k. y ∷ (take i xs ++ (x ∷ drop k (y ∷ xs)))) (sym next)

at_place : (P : Flying → Type 0) (fs : List Flying) (i : ℕ) (f : Flying) → slice_get fs i ≡ Some f → AllByRecursion P fs → P f
at_place P [] i f at all = absurd (none-some f at)
at_place P (x ∷ fs) zero f at all = let e : x ≡ f = cc in subst P e all.0
at_place P (x ∷ fs) (suc i) f at all = at_place P fs i f at all.1

-- the flight at a place is the first with its ticket
first_found : (fs : List Flying) (i : ℕ) (f : Flying) → slice_get fs i ≡ Some f → Rising (map ticket_of fs) → find (has_ticket f.ticket) fs ≡ Some f
first_found [] i f at rising = absurd (none-some f at)
first_found (x ∷ fs) zero f at rising =
    let e : x ≡ f = cc in
    let hit : has_ticket f.ticket x ≡ true = ap (has_ticket f.ticket) e ∙ same f.ticket in
    ap (λ b. cond b (Some x) (find (has_ticket f.ticket) fs)) hit ∙ ap Some e
first_found (x ∷ fs) (suc i) f at rising =
    let above : x.ticket < f.ticket = at_place (λ (g : Flying). x.ticket < g.ticket) fs i f at (rising-above x fs rising) in
    ap (λ b. cond b (Some x) (find (has_ticket f.ticket) fs)) (short x.ticket f.ticket above) ∙ first_found fs i f at rising.1

pub one_seen : (after : ℕ) (old new : Future) (e : Ended) → IsKept old → Ends after old new e → AreSeen after old new (Some e)
one_seen after old new e kept ends =
    let last : Flying = ends.last in
    let front : List Flying = take ends.place old.flights in
    let behind : List Flying = drop (ends.place + 1) old.flights in
    let within : ends.place < length old.flights = slice_get_within old.flights ends.place last ends.there in
    let long : length front ≡ ends.place = length-take-le ends.place old.flights (omega (arith, within)) in
    let whole : old.flights ≡ front ++ (last ∷ behind) = cut old.flights ends.place last ends.there in
    let rising : Rising (map ticket_of (front ++ (last ∷ behind))) = subst (λ fs. Rising (map ticket_of fs)) whole kept.rising in
    let s : SomeStay after front ends.looked = some_stay after front ends.looked (ends.count ∙ sym long) (rising-front front (last ∷ behind) rising) (λ k d l.
    subst (λ h. StaysOpen after h (get_or ends.looked k d)) (sym (get_or-take ends.place old.flights k d (omega (arith, l, long)))) (ends.earlier k d (omega (arith, l, long)))) in
    let seen : List Flying = s.seen ++ (last ∷ []) in
    let reads : List ℕ = s.stay.reads ++ (awaited last ∷ []) in
    let shows : is_end last (awaited last) ≡ true = same (awaited last) in
    let one : AreRead (last ∷ []) (awaited last ∷ []) = (record { rises = ends.rises; within = omega arith; alone = ends.alone }, tt) in
    let left : left_by seen reads ≡ ends_looked s = left-both s.seen (last ∷ []) s.stay.reads (awaited last ∷ []) s.stay.read
    ∙ ap (λ b. left_by s.seen s.stay.reads ++ cond b [] (looked_at (awaited last) last ∷ [])) shows ∙ append-nil (left_by s.seen s.stay.reads) ∙ sym s.stay.flights in
    let over : ended_by seen reads ≡ looked_at (awaited last) last ∷ [] = ended-both s.seen (last ∷ []) s.stay.reads (awaited last ∷ []) s.stay.read
    ∙ ap (λ b. ended_by s.seen s.stay.reads ++ cond b (looked_at (awaited last) last ∷ []) []) shows ∙ ap (λ xs. xs ++ (looked_at (awaited last) last ∷ [])) s.stay.over in
    let after_last : AllByRecursion (λ (g : Flying). last.ticket < g.ticket) behind = rising-above last behind (rising-back front (last ∷ behind) rising) in
    let before_last : AllByRecursion (λ (g : Flying). g.ticket < last.ticket) (s.passed ++ s.seen) = subst (λ fs. AllByRecursion (λ (g : Flying). g.ticket < last.ticket) fs) s.there (rising-below front last behind rising) in
    record {
      passed = s.passed;
      seen = seen;
      behind = behind;
      reads = reads;
      there = whole ∙ ap (λ fs. fs ++ (last ∷ behind)) s.there ∙ append_assoc s.passed s.seen (last ∷ behind) ∙ ap (λ fs. s.passed ++ fs) (sym (append_assoc s.seen (last ∷ []) behind));
      below = s.below;
      above = all-both (λ (f : Flying). after < f.ticket) seen behind (all-both (λ (f : Flying). after < f.ticket) s.seen (last ∷ []) s.above (ends.above, tt))
          (all-each (λ (g : Flying). last.ticket < g.ticket) (λ g. after < g.ticket) behind (λ g l. let up = ends.above in omega (arith, l, up)) after_last);
      read = read-both s.seen (last ∷ []) s.stay.reads (awaited last ∷ []) s.stay.read one;
      flights = ends.flights ∙ ap (λ fs. fs ++ behind) s.flights ∙ append_assoc s.passed s.looked behind ∙ ap (λ fs. s.passed ++ (fs ++ behind)) (sym left);
      pictures = ends.pictures ∙ left_picture (is_stopped last) old.pictures (finished last) ∙ ap (λ xs. old.pictures ++ pictures_of xs) (sym over);
      was = and_some (λ (f : Flying). ended_by seen reads ≡ looked_at (awaited f) f ∷ []) (flight_at old e.ticket) last
          (subst (λ t. flight_at old t ≡ Some last) (sym ends.ticket) (first_found old.flights ends.place last ends.there kept.rising)) over;
      over = (
        looked_at (awaited last) last,
        over,
        ends.shown,
        ends.ticket,
        ends.left,
        all-both (λ (g : Flying). g.ticket ≤ last.ticket) s.seen (last ∷ [])
            (all-each (λ (g : Flying). g.ticket < last.ticket) (λ g. g.ticket ≤ last.ticket) s.seen (λ g l. omega (arith, l)) (all-back (λ (g : Flying). g.ticket < last.ticket) s.passed s.seen before_last)) (omega arith, tt),
        after_last,
      );
    }
  where
    ends_looked : {front looked : List Flying} → SomeStay after front looked → List Flying
    ends_looked s = s.looked

    left_picture : (b : Bool) (ps : List Finished) (p : Finished) → cond b ps (ps ++ (p ∷ [])) ≡ ps ++ cond b [] (p ∷ [])
    left_picture true ps p = sym (append-nil ps)
    left_picture false ps p = refl

-- looks lend nothing
left_home : (fs : List Flying) (rs : List ℕ) → AllByRecursion (λ f. f.home ≡ true) fs → AllByRecursion (λ f. f.home ≡ true) (left_by fs rs)
left_home [] rs home = tt
left_home (f ∷ fs) [] home = tt
left_home (f ∷ fs) (r ∷ rs) home = by (is_end f r) (left_home fs rs home.1)
  where
    by : (b : Bool) → AllByRecursion (λ (g : Flying). g.home ≡ true) (left_by fs rs) → AllByRecursion (λ (g : Flying). g.home ≡ true) (cond b (left_by fs rs) (looked_at r f ∷ left_by fs rs))
    by true rest = rest
    by false rest = (home.0, rest)

pub seen_home : (after : ℕ) (old new : Future) (result : Option Ended) → AreSeen after old new result → All (λ f. f.home ≡ true) old.flights → All (λ f. f.home ≡ true) new.flights
seen_home after old new result s home =
    let whole : AllByRecursion (λ (f : Flying). f.home ≡ true) (s.passed ++ (s.seen ++ s.behind)) =
    subst (λ fs. AllByRecursion (λ (f : Flying). f.home ≡ true) fs) s.there (recursion_from_All (λ (f : Flying). f.home ≡ true) old.flights home) in
    let rest = all-back (λ (f : Flying). f.home ≡ true) s.passed (s.seen ++ s.behind) whole in
    All-from_recursion (λ (f : Flying). f.home ≡ true) new.flights (subst (λ fs. AllByRecursion (λ (f : Flying). f.home ≡ true) fs) (sym s.flights)
    (all-both (λ (f : Flying). f.home ≡ true) s.passed (left_by s.seen s.reads ++ s.behind) (all-front (λ (f : Flying). f.home ≡ true) s.passed (s.seen ++ s.behind) whole)
    (all-both (λ (f : Flying). f.home ≡ true) (left_by s.seen s.reads) s.behind (left_home s.seen s.reads (all-front (λ (f : Flying). f.home ≡ true) s.seen s.behind rest))
    (all-back (λ (f : Flying). f.home ≡ true) s.seen s.behind rest))))
